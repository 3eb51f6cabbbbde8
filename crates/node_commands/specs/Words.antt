-- What a list of words means: a command, and its options.
use Rattle.std.specs.Prelude.{◌≡◌, ◌≢◌, ℕ, ◌^◌, ◌+◌, ◌<◌, ◌≤◌, Bool, true, false, if◌then◌else◌, List, [], ◌∷◌, ◌++◌, map, flat_map, All, Option, Some, None, is_some, option_map, find, codes, decimal, string_bytes, String, bytes_eq}
use Rattle.std.specs.declared.alloc.Global.{Global}
use Rattle.frame_link.specs.declared.limits.Limits.{Limits}
use Rattle.lemma_memo.specs.declared.memory.TheConstants.{MAX_LEMMAS}
use Rattle.taos_drill.specs.declared.numbers.TheConstants.{MAX_LANES, MAX_REQUESTS}
use Rattle.node_commands.specs.declared.words.wanted.Drill.{Drill as DrillAsked}
use Rattle.node_commands.specs.declared.words.wanted.Mint.{Mint as MintAsked}
use Rattle.node_commands.specs.declared.words.wanted.Path.{Path as PathAsked}
use Rattle.node_commands.specs.declared.words.wanted.Wanted.{Wanted}
use Rattle.node_commands.specs.declared.words.wanted.Wanted.TheVariants as wanted
use Rattle.node_commands.specs.declared.words.wanted.TheConstants.{LANE_CONNECTIONS, MAX_FRAMES}
use Rattle.node_commands.specs.Routes.{IsRoute, numbers_in}

-- a text, by its bytes
abbrev pub Text : Type 0
Text = List ℕ

-- what `run` is asked for: so many frames at most, and room for so many lemmas
pub record RunWords : Type 0 where
  pub frames : ℕ
  pub lemmas : ℕ
  -- whether certificates are fetched
  pub pulls : Bool

-- the same, of these
abbrev pub run_words : ℕ → ℕ → Bool → RunWords
run_words frames lemmas pulls = record { frames = frames; lemmas = lemmas; pulls = pulls }

-- what `serve` is asked for: the limits of a lane, and room for so many lemmas of each
pub record ServeWords : Type 0 where
  pub limits : Limits
  pub lemmas : ℕ
  -- whether certificates are fetched
  pub pulls : Bool

-- the same, of these
abbrev pub serve_words : Limits → ℕ → Bool → ServeWords
serve_words limits lemmas pulls = record { limits = limits; lemmas = lemmas; pulls = pulls }

-- what `mint` is asked for
pub record MintWords : Type 0 where
  pub issuer : ℕ
  pub serial : ℕ
  pub from : Option Text
  pub until : Text
  pub quoted : Option Text
  pub left : Text
  pub right : Text

-- what the program has of it
abbrev pub mint_words : MintAsked → MintWords
mint_words m = record {
  issuer = m.issuer;
  serial = m.serial;
  from = option_map (λ s. s.now) m.from;
  until = m.until.now;
  quoted = option_map (λ s. s.now) m.quoted;
  left = m.left.now;
  right = m.right.now;
}

-- what `drill` is asked for
pub record DrillWords : Type 0 where
  pub seed : ℕ
  pub requests : ℕ
  pub lanes : ℕ

-- what the program has of it
abbrev pub drill_words : DrillAsked → DrillWords
drill_words d = record { seed = d.seed; requests = d.requests; lanes = d.lanes }

-- what `path` is asked for: a node, and the numbers of the domains on the way to it
pub record PathWords : Type 0 where
  pub node : ℕ
  pub route : List ℕ

-- what the program has of it
abbrev pub path_words : PathAsked → PathWords
path_words p = record { node = p.node; route = numbers_in p.route }

-- what a command line asks for
pub data Task : Type 0 where
  -- to serve a connection, of at most so many frames, with room for so many lemmas
  Run : RunWords → Task
  -- to look over a request and its reply
  Check : Task
  -- to serve a connection as a relay, of at most so many frames
  Relay : ℕ → Task
  -- to print a certificate
  Mint : MintWords → Task
  -- to serve so many connections at most of each lane, of at most so many frames each, with room for
  -- so many lemmas of each lane
  Serve : ServeWords → Task
  -- the same, as a relay, which keeps no lemmas
  RelayServe : Limits → Task
  -- to serve a connection, of at most so many frames, and to print the journals
  Audit : ℕ → Task
  -- to serve a load that is made
  Drill : DrillWords → Task
  -- to pass a certificate along a route to a node
  Path : PathWords → Task
  -- to serve a connection as a wallet, of at most so many frames
  Wallet : ℕ → Task
  -- to serve a connection, of at most so many frames, and to write the bytes of the journals
  AuditBytes : ℕ → Task
  -- to judge the bytes of journals
  Replay : Task

-- the task that the program has
abbrev pub task_of : Wanted → Task
task_of (wanted.Run frames lemmas pulls) = Run (run_words frames lemmas pulls)
task_of wanted.Check = Check
task_of (wanted.Relay frames) = Relay frames
task_of (wanted.Mint m) = Mint (mint_words m)
task_of (wanted.Serve limits lemmas pulls) = Serve (serve_words limits lemmas pulls)
task_of (wanted.RelayServe limits) = RelayServe limits
task_of (wanted.Audit frames) = Audit frames
task_of (wanted.Drill d) = Drill (drill_words d)
task_of (wanted.Path p) = Path (path_words p)
task_of (wanted.Wallet frames) = Wallet frames
task_of (wanted.AuditBytes frames) = AuditBytes frames
task_of wanted.Replay = Replay

-- an option of a command: its name, and whether it is a flag, which has no value
pub record Argument : Type 0 where
  pub name : Text
  pub is_flag : Bool

-- an option with a value
abbrev pub valued : Text → Argument
valued name = record { name = name; is_flag = false }

-- an option without
abbrev pub flag : Text → Argument
flag name = record { name = name; is_flag = true }

-- the option of this name
abbrev pub option_named : List Argument → Text → Option Argument
option_named options name = find (λ a. bytes_eq a.name name) options

-- how an option is given: with its value in one word, with its value in the next word, or alone
pub data Way : Type 0 where
  Joined : Text → Way
  Apart : Text → Way
  Alone : Way

-- an option that is given
pub record Given : Type 0 where
  pub name : Text
  pub way : Way

-- the words of an option that is given so
abbrev pub words_for : Text → Way → List Text
words_for name (Joined value) = (codes "--" ++ name ++ codes "=" ++ value) ∷ []
words_for name (Apart value) = (codes "--" ++ name) ∷ value ∷ []
words_for name Alone = (codes "--" ++ name) ∷ []

-- its words: `--name=value`, or `--name` and then `value`, or `--name` of a flag
abbrev pub words_of : Given → List Text
words_of given = words_for given.name given.way

-- a value is not empty, and begins with no `-` (45)
abbrev pub IsValue : Text → Type 0
IsValue [] = ⊥
IsValue (x ∷ xs) = x ≢ 45

-- what it has for a value may be one
abbrev pub HasValue : Way → Type 0
HasValue (Joined value) = IsValue value
HasValue (Apart value) = IsValue value
HasValue Alone = Unit {0}

-- its value, which is empty where it has none
abbrev pub value_in : Way → Text
value_in (Joined value) = value
value_in (Apart value) = value
value_in Alone = []

abbrev pub is_alone : Way → Bool
is_alone Alone = true
is_alone _ = false

-- the option that is given so: a flag has no value, and any other option has one
abbrev pub argument_in : Given → Argument
argument_in given = record { name = given.name; is_flag = is_alone given.way }

-- no option is given twice
abbrev pub AreOnce : List Given → Type 0
AreOnce [] = Unit {0}
AreOnce (g ∷ gs) = All (λ h. h.name ≢ g.name) gs × AreOnce gs

-- the words are the command, and behind it its options in any order
pub record IsLine (words : List Text) (command : Text) (options : List Argument)
    (given : List Given) : Type 0 where
  pub are : words ≡ command ∷ flat_map words_of given
  pub known : All (λ g. option_named options g.name ≡ Some (argument_in g)) given
  pub once : AreOnce given
  pub values : All (λ g. HasValue g.way) given

-- the value of an option, where that is given, and an empty one for a flag
abbrev pub value_of : Text → List Given → Option Text
value_of name given = option_map (λ g. value_in g.way) (find (λ g. bytes_eq g.name name) given)

-- ---- how the text of an option is read, by what its text means

module _ {X : Type 0} (reads : Text → X → Type 0) where
  -- of an option that has to be given
  abbrev pub Needed : Option Text → X → Type 0
  Needed None x = ⊥
  Needed (Some text) x = reads text x

  -- of one that need not be given, with what is meant without it
  abbrev pub Default : X → Option Text → X → Type 0
  Default other None x = x ≡ other
  Default other (Some text) x = reads text x

-- of a flag
abbrev pub IsRaised : Option Text → Bool → Type 0
IsRaised text raised = raised ≡ is_some text

-- the text is the number as it is written, with neither sign nor leading zero, below the bound
abbrev pub IsNumber : ℕ → Text → ℕ → Type 0
IsNumber bound text n = (text ≡ decimal n) × (n < bound)

-- the text is the number as it is written, with neither sign nor leading zero, and at least 1
abbrev pub IsCount : Text → ℕ → Type 0
IsCount text n = (text ≡ decimal n) × (1 ≤ n) × (n < 2 ^ 64)

-- ---- the commands

pub data Command : Type 0 where
  Running : Command
  Checking : Command
  Relaying : Command
  Minting : Command
  Serving : Command
  RelayServing : Command
  Auditing : Command
  Drilling : Command
  Carrying : Command
  Giving : Command
  AuditingBytes : Command
  Replaying : Command

-- its first word
abbrev pub named : Command → Text
named Running = codes "run"
named Checking = codes "check"
named Relaying = codes "relay"
named Minting = codes "mint"
named Serving = codes "serve"
named RelayServing = codes "relay-serve"
named Auditing = codes "audit"
named Drilling = codes "drill"
named Carrying = codes "path"
named Giving = codes "wallet"
named AuditingBytes = codes "audit-bytes"
named Replaying = codes "replay"

-- how many frames an option `--frames` means, and how many are meant without it
abbrev pub AreFrames : Option Text → ℕ → Type 0
AreFrames = Default IsCount MAX_FRAMES

-- how many connections an option `--connections` means, and how many are meant without it
abbrev pub AreConnections : Option Text → ℕ → Type 0
AreConnections = Default IsCount LANE_CONNECTIONS

-- how many lemmas an option `--lemmas` makes room for, and that without it there is none
abbrev pub AreLemmas : Option Text → ℕ → Type 0
AreLemmas = Default (IsNumber (MAX_LEMMAS + 1)) 0

-- there is a text, and it is such a number
abbrev pub HasNumber : ℕ → Option Text → ℕ → Type 0
HasNumber bound = Needed (IsNumber bound)

-- there is a text, and it is such a route
abbrev pub HasRoute : Option Text → List ℕ → Type 0
HasRoute = Needed IsRoute

-- the texts that options have give the limits
pub record GivesLimits (text_of : Text → Option Text) (limits : Limits) : Type 0 where
  pub connections : AreConnections (text_of (codes "connections")) limits.connections
  pub frames : AreFrames (text_of (codes "frames")) limits.frames

-- the texts that options have give what `run` is asked for
pub record GivesRun (text_of : Text → Option Text) (r : RunWords) : Type 0 where
  pub frames : AreFrames (text_of (codes "frames")) r.frames
  pub lemmas : AreLemmas (text_of (codes "lemmas")) r.lemmas
  pub pulls : IsRaised (text_of (codes "pull")) r.pulls

-- the texts that options have give what `serve` is asked for
pub record GivesServe (text_of : Text → Option Text) (s : ServeWords) : Type 0 where
  pub limits : GivesLimits text_of s.limits
  pub lemmas : AreLemmas (text_of (codes "lemmas")) s.lemmas
  pub pulls : IsRaised (text_of (codes "pull")) s.pulls

-- the texts that options have give what `mint` is asked for
pub record GivesMint (text_of : Text → Option Text) (m : MintWords) : Type 0 where
  pub issuer : HasNumber (2 ^ 32) (text_of (codes "issuer")) m.issuer
  pub serial : HasNumber (2 ^ 64) (text_of (codes "serial")) m.serial
  pub from : text_of (codes "from") ≡ m.from
  pub until : text_of (codes "until") ≡ Some m.until
  pub quoted : text_of (codes "quoted") ≡ m.quoted
  pub left : text_of (codes "left") ≡ Some m.left
  pub right : text_of (codes "right") ≡ Some m.right

-- the texts of the words of `drill` give what it is asked for: a number, the count of requests, and that
-- of lanes, of which there is one at least
pub record GivesDrill (text_of : Text → Option Text) (d : DrillWords) : Type 0 where
  pub seed : HasNumber (2 ^ 64) (text_of (codes "seed")) d.seed
  pub requests : HasNumber (MAX_REQUESTS + 1) (text_of (codes "requests")) d.requests
  pub lanes : HasNumber (MAX_LANES + 1) (text_of (codes "lanes")) d.lanes
  pub some : 1 ≤ d.lanes

-- the texts that options have give what `path` is asked for
pub record GivesPath (text_of : Text → Option Text) (p : PathWords) : Type 0 where
  pub node : HasNumber (2 ^ 32) (text_of (codes "node")) p.node
  pub route : HasRoute (text_of (codes "route")) p.route

-- the options of a command that serves
abbrev pub serving_options : List Argument
serving_options = valued (codes "frames") ∷ []

-- the options of `run`
abbrev pub run_options : List Argument
run_options = valued (codes "frames") ∷ valued (codes "lemmas") ∷ flag (codes "pull") ∷ []

-- the options of a command that serves lanes
abbrev pub lane_options : List Argument
lane_options = valued (codes "connections") ∷ valued (codes "frames") ∷ []

-- the options of `serve`
abbrev pub serve_options : List Argument
serve_options =
    valued (codes "connections") ∷ valued (codes "frames") ∷ valued (codes "lemmas")
    ∷ flag (codes "pull") ∷ []

-- the options of `mint`
abbrev pub mint_options : List Argument
mint_options =
    valued (codes "issuer") ∷ valued (codes "serial") ∷ valued (codes "from")
    ∷ valued (codes "until") ∷ valued (codes "quoted") ∷ valued (codes "left") ∷ valued (codes "right") ∷ []

-- the options of `path`
abbrev pub path_options : List Argument
path_options = valued (codes "node") ∷ valued (codes "route") ∷ []

-- the options of a command: `drill` has words by their places in place of options
abbrev pub options_of : Command → List Argument
options_of Running = run_options
options_of Checking = []
options_of Relaying = serving_options
options_of Minting = mint_options
options_of Serving = serve_options
options_of RelayServing = lane_options
options_of Auditing = serving_options
options_of Drilling = []
options_of Carrying = path_options
options_of Giving = serving_options
options_of AuditingBytes = serving_options
options_of Replaying = []

-- what a command is asked for
abbrev pub Asked : Command → Type 0
Asked Running = RunWords
Asked Checking = Unit {0}
Asked Relaying = ℕ
Asked Minting = MintWords
Asked Serving = ServeWords
Asked RelayServing = Limits
Asked Auditing = ℕ
Asked Drilling = DrillWords
Asked Carrying = PathWords
Asked Giving = ℕ
Asked AuditingBytes = ℕ
Asked Replaying = Unit {0}

-- the texts behind a command give what it is asked for
abbrev pub Gives : (c : Command) → (Text → Option Text) → Asked c → Type 0
Gives Running text_of r = GivesRun text_of r
Gives Checking text_of nothing = Unit {0}
Gives Relaying text_of frames = AreFrames (text_of (codes "frames")) frames
Gives Minting text_of m = GivesMint text_of m
Gives Serving text_of s = GivesServe text_of s
Gives RelayServing text_of limits = GivesLimits text_of limits
Gives Auditing text_of frames = AreFrames (text_of (codes "frames")) frames
Gives Drilling text_of d = GivesDrill text_of d
Gives Carrying text_of p = GivesPath text_of p
Gives Giving text_of frames = AreFrames (text_of (codes "frames")) frames
Gives AuditingBytes text_of frames = AreFrames (text_of (codes "frames")) frames
Gives Replaying text_of nothing = Unit {0}

-- what is asked of a command
abbrev pub task_for : (c : Command) → Asked c → Task
task_for Running r = Run r
task_for Checking nothing = Check
task_for Relaying frames = Relay frames
task_for Minting m = Mint m
task_for Serving s = Serve s
task_for RelayServing limits = RelayServe limits
task_for Auditing frames = Audit frames
task_for Drilling d = Drill d
task_for Carrying p = Path p
task_for Giving frames = Wallet frames
task_for AuditingBytes frames = AuditBytes frames
task_for Replaying nothing = Replay

-- the words are this command with options that give what it is asked for
abbrev pub Asks : (c : Command) → List Text → Asked c → Type 0
Asks c words asked =
    (given : List Given) × IsLine words (named c) (options_of c) given
    × Gives c (λ name. value_of name given) asked

-- the words of `drill`, by their places
abbrev pub drill_names : List Text
drill_names = codes "seed" ∷ codes "requests" ∷ codes "lanes" ∷ []

-- the word in the place of this name
abbrev pub text_at : List Text → List Text → Text → Option Text
text_at (name ∷ names) (text ∷ texts) this =
    if bytes_eq name this then Some text else text_at names texts this
text_at _ _ this = None

-- the words are `drill` and the three words behind it
abbrev pub AsksDrill : List Text → DrillWords → Type 0
AsksDrill words d =
    (seed requests lanes : Text) × (words ≡ codes "drill" ∷ seed ∷ requests ∷ lanes ∷ [])
    × GivesDrill (text_at drill_names (seed ∷ requests ∷ lanes ∷ [])) d

-- the words of a command line, each by its bytes, mean the task
abbrev pub TextsMean : List Text → Task → Type 0
TextsMean words (Run r) = Asks Running words r
TextsMean words Check = Asks Checking words tt
TextsMean words (Relay frames) = Asks Relaying words frames
TextsMean words (Mint m) = Asks Minting words m
TextsMean words (Serve s) = Asks Serving words s
TextsMean words (RelayServe limits) = Asks RelayServing words limits
TextsMean words (Audit frames) = Asks Auditing words frames
TextsMean words (Drill d) = AsksDrill words d
TextsMean words (Path p) = Asks Carrying words p
TextsMean words (Wallet frames) = Asks Giving words frames
TextsMean words (AuditBytes frames) = Asks AuditingBytes words frames
TextsMean words Replay = Asks Replaying words tt

-- the words mean the task
abbrev pub Mean : List (String Global) → Task → Type 0
Mean words task = TextsMean (map string_bytes words) task

-- what was found is what the words mean, and nothing is found where they mean nothing
abbrev pub IsMeaning : List (String Global) → Option Wanted → Type 0
IsMeaning words (Some wanted) = Mean words (task_of wanted)
IsMeaning words None = (task : Task) → Mean words task → ⊥
