-- Cells that were opened with empty journals, and their first passes.
use Rattle.std.proofs.Common.{◌≡◌, ◌+◌, List, [], ◌∷◌, refl, ◌∙◌, arith}
use Rattle.std.specs.Prelude.{All}
use Rattle.std.specs.List.{AllZip}
use Rattle.std.proofs.lemmas.List.Elements.{All-nil, All-cons, All-head, All-tail}
use Rattle.agent_shards.specs.Cells.{IsOpened}
use Rattle.agent_shards.specs.Each.{Each3}
use Rattle.turn_cell.specs.declared.shares.TheConstants.{ALL_SHARES}
use Rattle.turn_cell.specs.Known.{Cell, Known}
use Rattle.taos_lanes.specs.Workers.{LaneShown, HasOtherWork}
use Rattle.taos_lanes.specs.Joining.{AreFresh, HaveAllBut}

-- what is opened so
pub record Opened {F E : Type 0} (cells : List (Cell F E)) (passes : List (Known F E)) : Type 0 where
  pub fresh : AreFresh passes
  pub left : HaveAllBut 0 passes
  pub new : All (λ (c : Cell F E). c.opening ≡ []) cells

pub opened_new : {S F E : Type 0} (fixed : S → F) (journal : S → List E) (Q : S → Cell F E → Known F E → Type 0) → ((s : S) (c : Cell F E) (p : Known F E) → Q s c p → IsOpened (fixed s) (journal s) c p) →
    (values : List S) (cells : List (Cell F E)) (passes : List (Known F E)) → Each3 Q values cells passes → All (λ (s : S). journal s ≡ []) values → Opened cells passes
opened_new fixed journal Q go [] [] [] each none = record { fresh = All-nil _; left = All-nil _; new = All-nil _ }
opened_new {S} {F} {E} fixed journal Q go (s ∷ values) (c ∷ cells) (p ∷ passes) each none =
    let rest = opened_new fixed journal Q go values cells passes each.1 (All-tail (λ (x : S). journal x ≡ []) s values none) in
    let first = All-head (λ (x : S). journal x ≡ []) s values none in
    let is = go s c p each.0 in
    record {
      fresh = All-cons (λ (x : Known F E). (x.seen ≡ []) × (x.own ≡ [])) p passes (is.seen ∙ first, is.own) rest.fresh;
      left = All-cons (λ (x : Known F E). x.shares + 0 ≡ ALL_SHARES) p passes (omega (arith, is.shares)) rest.left;
      new = All-cons (λ (x : Cell F E). x.opening ≡ []) c cells (is.opening ∙ first) rest.new;
    }
opened_new fixed journal Q go _ _ _ each none = absurd each

-- lanes that nobody touched
pub untouched : {X : Type 0} (lanes : List (LaneShown X)) → AllZip HasOtherWork lanes lanes
untouched [] = tt
untouched (l ∷ lanes) = (record { outside = refl; door = refl; fetch = refl; tally = refl }, untouched lanes)
