-- Entries of access lists by their places.
use Rattle.std.proofs.Common.{◌≡◌, ◌<◌, ℕ, List, length, map, Some, slice_get, sym, ◌∙◌, arith}
use Rattle.std.specs.Prelude.{slice_index_or}
use Rattle.std.proofs.lemmas.Option.{slice_get_within, same_Some}
use Rattle.std.proofs.lemmas.List.{length-map}
use Rattle.prin_term.specs.declared.term.Entry.{Entry}
use Rattle.prin_term.specs.View.{Grant, grant}
use Rattle.denial_link.proofs.Places.{entry_at}

-- the entry that was read at a place is the one that stands there
pub same_grant : (list : List Entry) (place : ℕ) (e : Entry) (g : Grant) → place < length list → e ≡ slice_index_or list place e → slice_get (map grant list) place ≡ Some g → grant e ≡ g
same_grant list place e g within is stands = same_Some (grant e) g (sym (entry_at list place e is within) ∙ stands)

pub place_within : (list : List Entry) (place : ℕ) (g : Grant) → slice_get (map grant list) place ≡ Some g → place < length list
place_within list place g stands = omega (arith, slice_get_within (map grant list) place g stands, length-map list grant)
