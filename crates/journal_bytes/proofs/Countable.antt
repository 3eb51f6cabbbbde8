-- What the journals of a shard and of an object list can be counted, and what is spelled of them.
use Rattle.std.proofs.Common.{◌≡◌, ◌∷◌, List, [], map, refl, ap, ◌∙◌, arith}
use Rattle.std.specs.Prelude.{All}
use Rattle.agent_core.specs.Answers.{FitsEvent}
use Rattle.agent_core.specs.declared.event.ShardEntry.{ShardEntry}
use Rattle.agent_core.specs.Journals.{Entry, ShardSeen}
use Rattle.agent_core.specs.State.{Event, Asks, Keeps, Holds, Discards, Forgets, Expires, Withdraws}
use Rattle.agent_core.specs.Views.{entry_of}
use Rattle.journal_bytes.specs.Limits.{AreCountable, CitesFew, CitesFewOf}
use Rattle.journal_bytes.specs.Spelled.{spelled}
use Rattle.journal_bytes.specs.View.{entry_spelled}

countable : (e : Event) → FitsEvent e → CitesFewOf e → AreCountable e
countable (Asks a) fits few = (omega (arith, fits.1), omega (arith, fits.0))
countable (Keeps ask entry c) fits few = omega (arith, few)
countable (Holds certs) fits few = omega (arith, fits)
countable (Discards digest) fits few = tt
countable (Forgets channel) fits few = tt
countable (Expires reading) fits few = tt
countable (Withdraws issuer) fits few = tt

pub all_countable : (s : ShardSeen) → All (λ (e : Entry). FitsEvent e.event) s.journal → CitesFew s → All (λ (e : Entry). AreCountable e.event) s.journal
all_countable s fits few = λ i d below. countable _ (fits i d below) (few i d below)

-- what is spelled of the program's entries is what is spelled of those that they stand for
each_spelled : (entries : List ShardEntry) → map entry_spelled entries ≡ map spelled (map entry_of entries)
each_spelled [] = refl
each_spelled (e ∷ entries) = ap (λ l. entry_spelled e ∷ l) (each_spelled entries)

pub are_spelled : (entries : List ShardEntry) (journal : List Entry) → map entry_of entries ≡ journal → map entry_spelled entries ≡ map spelled journal
are_spelled entries journal are = each_spelled entries ∙ ap (map spelled) are
