-- The note of an ending: one line, but none for success, nor where a check or a replay found anything.
use Rattle.std.specs.Prelude.{◌≡◌, ℕ, ◌<◌, ◌≤◌, List, [], ◌++◌, length, Option, Some, None, codes, decimal}
use Rattle.std.specs.Io.KnownBytes.{Appends}
use Rattle.frame_link.specs.Faults.{Rose}
use Rattle.prin_text.specs.declared.lines.fault.FileCause.{FileCause}
use Rattle.prin_text.specs.declared.lines.fault.FileCause.TheVariants.{FirstLine, UnknownWord, Words, Number, Hex, Rights, UnknownDomain, NodeFirst, UnknownObject, UnknownName, Principal, Text, Certificate, Twice, Limit, NoNode}
use Rattle.taos_node.specs.declared.ending.Ending.{Ending}
use Rattle.node_commands.specs.declared.minting.MintWord.{MintWord}
use Rattle.node_commands.specs.declared.minting.MintWord.TheVariants as word
use Rattle.taos_node.specs.declared.stop.Stop.{Stop}
use Rattle.taos_node.specs.declared.stop.Stop.TheVariants.{Usage, Line, Malformed, ReadFault, WriteFault, ClockFault, NoMemory, Truncated, TooLong, DoorFault, Spent, NotGranted, Word, Hop, Illegal}
use Rattle.taos_node.specs.Stops.{stop_of}

-- a cause, as notes name it
abbrev pub cause_text : FileCause → List ℕ
cause_text FirstLine = codes "first line"
cause_text UnknownWord = codes "unknown word"
cause_text Words = codes "words"
cause_text Number = codes "number"
cause_text Hex = codes "hex"
cause_text Rights = codes "rights"
cause_text UnknownDomain = codes "unknown domain"
cause_text NodeFirst = codes "node first"
cause_text UnknownObject = codes "unknown object"
cause_text UnknownName = codes "unknown name"
cause_text Principal = codes "principal"
cause_text Text = codes "text"
cause_text Certificate = codes "certificate"
cause_text Twice = codes "twice"
cause_text Limit = codes "limit"
cause_text NoNode = codes "no node"

-- a word, as notes name it
abbrev pub word_text : MintWord → List ℕ
word_text word.Issuer = codes "issuer"
word_text word.Time = codes "time"
word_text word.Quoted = codes "quoted"
word_text word.Left = codes "left"
word_text word.Right = codes "right"
word_text word.Large = codes "large"

-- the note of what stopped it; what a line of the output says has none
abbrev pub stop_note : Stop → List ℕ
stop_note Usage = codes "taos: usage\n"
stop_note (Line line cause) = codes "taos: node file: line " ++ decimal line ++ codes ": "
    ++ cause_text cause ++ codes "\n"
stop_note (Malformed offset) = codes "taos: node file: byte " ++ decimal offset
    ++ codes ": malformed\n"
stop_note ReadFault = codes "taos: read fault\n"
stop_note WriteFault = codes "taos: write fault\n"
stop_note ClockFault = codes "taos: clock fault\n"
stop_note NoMemory = codes "taos: no memory\n"
stop_note (Truncated have) = codes "taos: input ends inside a frame, " ++ decimal have
    ++ codes " bytes kept\n"
stop_note (TooLong n) = codes "taos: frame too long: " ++ decimal n ++ codes "\n"
stop_note (DoorFault lane) = codes "taos: door fault at lane " ++ decimal lane ++ codes "\n"
stop_note (Spent frames) = codes "taos: frames spent: " ++ decimal frames ++ codes "\n"
stop_note (Word w) = codes "taos: mint refused: " ++ word_text w ++ codes "\n"
stop_note (Hop hop code) = codes "taos: path refused: hop " ++ decimal hop
    ++ codes " code " ++ decimal code ++ codes "\n"
stop_note NotGranted = []
stop_note Illegal = []

-- the same where it stopped at all
abbrev pub note_by : Option Stop → List ℕ
note_by None = []
note_by (Some stop) = stop_note stop

-- the bytes of the note of an ending
abbrev pub note_of : Ending → List ℕ
note_of ending = note_by (stop_of ending)

-- the note was written, or a proper front of it where the notes failed; what was told of the notes,
-- and how often they had failed, before and after
pub data IsNoted (before after : Option (List ℕ)) (faults0 faults1 : ℕ)
    (note : List ℕ) : Type 0 where
  whole : faults1 ≡ faults0 → Appends before after note → IsNoted before after faults0 faults1 note
  cut : (part more : List ℕ) → note ≡ part ++ more → 0 < length more → faults0 ≤ faults1 →
      Rose faults0 faults1 → Appends before after part →
      IsNoted before after faults0 faults1 note
