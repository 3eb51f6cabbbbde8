-- One hop of a route, and what comes after it, with their lines.
use Rattle.std.proofs.Common.{◌≡◌, ℕ, suc, ◌+◌, ◌<◌, ◌≤◌, ◌^◌, Bool, true, false, All, get_or, arith, List, [], ◌∷◌, ◌++◌, length, take, Some, Result, Ok, Err, refl, sym, ap, subst, ◌∙◌, append_assoc, append-nil}
use Rattle.std.specs.Prelude.{is_err, OnOk}
use Rattle.std.specs.List.{flat_map}
use Rattle.std.proofs.lemmas.Bool.{false≢true}
use Rattle.std.proofs.lemmas.List.Elements.{All-cons}
use Rattle.std.proofs.lemmas.List.{take_at}
use Rattle.byte_fields.specs.Steps.{with_value}
use Rattle.byte_fields.proofs.FieldLaws.{bytes_are, IsBytes}
use Rattle.frame_link.specs.Relay.{Said, Gave, Refuses}
use Rattle.relay_path.specs.declared.answer.Along.{Along}
use Rattle.relay_path.specs.declared.answer.Along.TheVariants as ends
use Rattle.relay_path.specs.declared.answer.HopAnswer.TheVariants as hops
use Rattle.relay_path.specs.Domains.{DomainKnows, domain_of, LinksAgree}
use Rattle.relay_path.specs.Going.{before, GoesAs, hops_from, went}
use Rattle.relay_path.specs.Hopping.{IsHopSaid}
use Rattle.relay_path.specs.Opening.{hopped}
use Rattle.relay_path.specs.Paths.{Goes, IsRoute, line_of, target_of}
use Rattle.relay_path.proofs.Front.{AreNumbers}
use Rattle.relay_path.proofs.Leading.{goes_is_path}
use Rattle.relay_path.proofs.Stopping.{stopped}

pub said_given : (said : Said) (out : List ℕ) → IsHopSaid said hops.Passed out → said ≡ Gave out
said_given (Gave made) out is = ap (λ (l : List ℕ). Gave l) (sym is)
said_given (Refuses code) out is = absurd is

-- what was pushed, where that did not fail
pub line_pushed : {A E : Type 0} (r : Result A E) (P : Type 0) → is_err r ≡ false → OnOk r P → P
line_pushed (Ok x) P e is = is
line_pushed (Err x) P e is = absurd (false≢true (sym e))

more_lines : (old line rest mid new : List ℕ) → mid ≡ old ++ line → new ≡ mid ++ rest → new ≡ old ++ (line ++ rest)
more_lines old line rest mid new first second = second ∙ ap (λ (l : List ℕ). l ++ rest) first ∙ append_assoc old line rest

module _ (ds : List DomainKnows) (node place n : ℕ) (later given made : List ℕ) (d : DomainKnows) (is : domain_of ds n ≡ Some d) (gave : hopped d (target_of node later) given ≡ Gave made) where
  first_of : hops_from ds node place (n ∷ later) given ≡ with_value (before made) (hops_from ds node (place + 1) later made)
  first_of = rw (is, gave) refl

  pub goes_further : (old mid new : List ℕ) (r : Along) → mid ≡ old ++ line_of made → GoesAs (hops_from ds node (place + 1) later made) r mid new → GoesAs (hops_from ds node place (n ∷ later) given) r old new
  goes_further old mid new ends.Done line goes =
      (made ∷ goes.0, first_of ∙ ap (with_value (before made)) goes.1, more_lines old (line_of made) (flat_map line_of goes.0) mid new line goes.2)
  goes_further old mid new (ends.Refused hop code) line goes =
      (first_of ∙ ap (with_value (before made)) goes.0, (line_of made ++ goes.1.0, more_lines old (line_of made) goes.1.0 mid new line goes.1.1))
  goes_further old mid new ends.NoMemory line goes = (line_of made ++ goes.0, more_lines old (line_of made) goes.0 mid new line goes.1)

-- ---- the whole route

numbers_fit : (xs : List ℕ) → ((i : ℕ) → get_or xs i 0 < 2 ^ 32) → AreNumbers xs
numbers_fit [] fit = λ k d below. absurd (omega (arith, below))
numbers_fit (x ∷ xs) fit = All-cons (λ n. n < 2 ^ 32) x xs (fit 0) (numbers_fit xs (λ i. fit (suc i)))

bytes_fit : (xs : List ℕ) → IsBytes xs → All (λ b. b < 256) xs
bytes_fit [] fit = λ k d below. absurd (omega (arith, below))
bytes_fit (x ∷ xs) fit = All-cons (λ b. b < 256) x xs (fit 0) (bytes_fit xs (λ i. fit (suc i)))

pub is_route : (ds : List DomainKnows) (route bytes : List ℕ) → 1 ≤ length route → length route ≤ 4 → ((i : ℕ) → get_or route i 0 < 2 ^ 32) → LinksAgree ds → IsBytes bytes → IsRoute ds route bytes
is_route ds route bytes some short numbers links fits = record { some = some; short = short; numbers = numbers_fit route numbers; links = links; bytes_are = bytes_fit bytes fits }

cut_back : (old new more : List ℕ) → new ≡ old ++ more → take (length old) new ≡ old
cut_back old new more is = ap (take (length old)) is ∙ take_at old more (length old) refl

module _ (ds : List DomainKnows) (route bytes : List ℕ) (node : ℕ) (is : IsRoute ds route bytes) where
  pub gone_done : (old new : List ℕ) → GoesAs (went ds route node bytes) ends.Done old new → Goes ds route node bytes ends.Done old new
  gone_done old new goes = (goes.0, goes_is_path ds route bytes node is goes.0 goes.1, goes.2)

  pub gone_back : (r : Along) (old new : List ℕ) → (r ≡ ends.Done → ⊥) → GoesAs (went ds route node bytes) r old new → Goes ds route node bytes r old (take (length old) new)
  gone_back ends.Done old new other goes = absurd (other refl)
  gone_back (ends.Refused hop code) old new other goes = (stopped ds route node bytes (bytes_are bytes is.bytes_are) (ends.Refused hop code) goes.0, cut_back old new goes.1.0 goes.1.1)
  gone_back ends.NoMemory old new other goes = cut_back old new goes.0 goes.1
