use Rattle.std.proofs.Common.{◌≡◌, List, ℕ, Option, Some, length, slice_get, ap, sym, subst, arith}
use Rattle.std.specs.Arc.{arc_value}
use Rattle.std.proofs.lemmas.List.{length-map}
use Rattle.std.proofs.lemmas.Option.{none-some}
use Rattle.stmt_codec.specs.Certificates.{Certificate}
use Rattle.stmt_codec.specs.View.{certificate_of, certificates}
use Rattle.lru.specs.LruCache.{LruCache}
use Rattle.lemma_memo.specs.declared.kept.Kept.{Kept}
use Rattle.lemma_memo.specs.Kept.{HoldsKept}
use Rattle.lemma_memo.proofs.memory.Memory.new.Goals.{in-Some+in_ok-sparse-in-Some, in-None}
use Rattle.lemma_memo.proofs.memory.Memory.new.Goals as goal

-- nothing is marked, and nothing is kept
pub invariant_of-result : goal.invariant_of-result
invariant_of-result c =
    let commons = c.in_ok-handles.field-0.items in
    let anchors = (arc_value c.args.anchors).items in
    let same = ap (λ (l : List Certificate). length l) c.in_ok-handles.ensures in (
      omega (arith, same, length-map commons certificate_of, length-map c.args.commons.now certificate_of, c.requires),
      (λ place number at. absurd (none-some (Some number) (subst (λ (l : List (Option ℕ)). slice_get l place ≡ Some (Some number)) c.new-2.ensures at))),
      elim c.match-new.branch [
        | in-Some+in_ok-sparse-in-Some w ↦ subst (HoldsKept anchors (certificates commons)) (sym w.lemmas-is) (
          omega (arith, ap (λ (x : LruCache (List ℕ) Kept). x.cap) w.in_ok-sparse-in-Some.ensures, w.in-Some.room.ok),
          λ e has. absurd (omega (arith, has.1, ap (λ (x : LruCache (List ℕ) Kept). length x.entries) w.in_ok-sparse-in-Some.ensures)),
        )
        | in-None w ↦ subst (HoldsKept anchors (certificates commons)) (sym w.lemmas-is) tt
      ],
    )
