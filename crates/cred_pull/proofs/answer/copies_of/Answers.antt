-- One text more is copied.
use Rattle.std.proofs.Common.{◌++◌, ◌∷◌, Bor, List, ℕ, [], map, take, sym, ap, ◌∙◌, arith}
use Rattle.std.proofs.lemmas.List.{map_more, map_push, take_all}
use Rattle.cred_pull.specs.Fetching.{Texts}
use Rattle.taos_wire.specs.View.{text_of}
use Rattle.cred_pull.proofs.answer.copies_of.Goals as goal

pub loop-text-preserved : goal.loop-text-preserved
loop-text-preserved c =
    let now : Bor (List ℕ) → List ℕ = λ t. t.now in
    let texts = c.args.texts.now in
    let i = c.loop-text.text-index in
    let copy = c.in_ok-from_slice.field-0 in
    ap (map text_of) c.in_ok-push.ensures.items ∙ map_push text_of c.loop-text.copies.items copy
    ∙ ap (λ (l : Texts). l ++ text_of copy ∷ []) c.loop-text.invariant
    ∙ ap (λ (t : List ℕ). map now (take i texts) ++ t ∷ []) c.in_ok-from_slice.ensures.items
    ∙ sym (map_more now texts i _ c.loop-text-test.true)

pub returns : goal.returns
returns c =
    let now : Bor (List ℕ) → List ℕ = λ t. t.now in
    c.loop-text.invariant ∙ ap (map now) (take_all c.loop-text.text-index c.args.texts.now (omega (arith, c.loop-text-test.false)))
