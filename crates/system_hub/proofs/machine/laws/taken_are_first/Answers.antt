-- The rest has a reading of its own; behind what was taken it gives one of all bytes, and there is no other.
use Rattle.std.proofs.Common.{◌≡◌, ◌++◌, ◌∙◌, ◌<◌, ◌≤◌, ℕ, List, All, length, drop, refl, sym, ap, subst, append_assoc, lit<}
use Rattle.std.proofs.lemmas.List.{drop_at}
use Rattle.std.proofs.lemmas.List.Concat.{flat_map-append}
use Rattle.std.proofs.lemmas.List.Elements.{All-append, All-drop}
use Rattle.frame_link.specs.Frames.{frame, framed, Splits}
use Rattle.frame_link.specs.declared.service.TheConstants.{MAX_PAYLOAD}
use Rattle.system_hub.proofs.machine.laws.taken_are_first.Goals as goal

pub returns : goal.returns
returns c = λ place lanes a payloads rest small served split.
    let all : List ℕ = a.received in
    let taken : List (List ℕ) = a.taken in
    let more : List ℕ = served.taken.0 in
    let e : all ≡ framed taken ++ more = served.taken.1 in
    let P : ℕ → Type 0 = λ b. b < 256 in
    let cut : drop (length (framed taken)) all ≡ more = ap (drop (length (framed taken))) e ∙ drop_at (framed taken) more (length (framed taken)) refl in
    let small_more : All P more = subst (All P) cut (All-drop P (length (framed taken)) all small) in
    let read = c.one_reading.ensures.exists MAX_PAYLOAD more small_more in
    let text : all ≡ framed (taken ++ read.0) ++ read.1 =
    e ∙ ap (λ (x : List ℕ). framed taken ++ x) read.2.whole
    ∙ sym (append_assoc (framed taken) (framed read.0) read.1)
    ∙ ap (λ (x : List ℕ). x ++ read.1) (sym (flat_map-append frame taken read.0)) in
    let whole : Splits MAX_PAYLOAD all (taken ++ read.0) read.1 = record {
      whole = text;
      each = All-append (λ p. length p ≤ MAX_PAYLOAD) taken read.0 served.short read.2.each;
      no_more = read.2.no_more;
    } in
    let same = c.one_reading.ensures.unique MAX_PAYLOAD all payloads (taken ++ read.0) rest read.1 (lit< tt) split whole in
    (read.0, same.0)
