-- The lines that are carried over are a proof without waste.
use Rattle.std.proofs.Common.{◌≡◌, ℕ, zero, suc, ◌+◌, ◌<◌, ◌≤◌, List, [], ◌∷◌, ◌++◌, Some, slice_get, get_or, length, map, refl, sym, ap, ap₂, subst, ◌∙◌, arith, All}
use Rattle.std.specs.List.{flat_map}
use Rattle.std.proofs.lemmas.List.{map-append}
use Rattle.std.proofs.lemmas.Option.{same_Some, slice_get-get_or, slice_get_within}
use Rattle.prin_term.specs.declared.term.Anchor.{Anchor}
use Rattle.prin_term.specs.Principal.{Principal}
use Rattle.taos_calculus.specs.declared.line.Node.{Node}
use Rattle.taos_calculus.specs.declared.line.Fact.{Fact}
use Rattle.taos_calculus.specs.declared.line.Line.{Line}
use Rattle.taos_calculus.specs.Rules.{Claim, Judgement, EachFollows, Follows, last_fact, Line as Meaning, line}
use Rattle.stmt_codec.specs.Distinct.{first_of_each}
use Rattle.taos_calculus.specs.Canonical.{terms_of, post_order, canonical_table}
use Rattle.taos_calculus.specs.Limits.{IsProofParts}
use Rattle.taos_calculus.specs.Tables.{IsNodeTable, IsBelow, judgement, meaning, named, principals_of, parts_of, lines_of}
use Rattle.taos_calculus.specs.Tidy.{moved}
use Rattle.taos_calculus.specs.Numbered.{Gives, EachGives}
use Rattle.stmt_codec.proofs.Firsts.{first_of_each-met}
use Rattle.taos_calculus.proofs.Numbers.{gives-follows}
use Rattle.taos_calculus.proofs.NumberedMoving.{gives_moved}
use Rattle.term_pool.specs.Carrying.{IsCarriedLine, CarriesLines}

-- lists whose elements go together
same_lists : {X Y Z : Type 0} (f : X → Z) (g : Y → Z) (xs : List X) (ys : List Y) → length ys ≡ length xs →
    ((i : ℕ) (x : X) → slice_get xs i ≡ Some x → (y : Y) × (slice_get ys i ≡ Some y) × (g y ≡ f x)) → map g ys ≡ map f xs
same_lists f g [] [] e each = refl
same_lists f g [] (y ∷ ys) e each = absurd (omega arith)
same_lists f g (x ∷ xs) [] e each = absurd (omega arith)
same_lists {X} {Y} {Z} f g (x ∷ xs) (y ∷ ys) e each =
    let (y', at, is) = each 0 x refl in
    let same : y ≡ y' = same_Some y y' at in
    ap₂ (λ (z : Z) (zs : List Z). z ∷ zs) (ap g same ∙ is) (same_lists f g xs ys (omega arith) (λ i. each (suc i)))

meanings : (p : ℕ → Principal) (xs : List Line) → flat_map (λ (l : Meaning). terms_of l.fact) (map (meaning p) xs) ≡ flat_map terms_of (map (λ (l : Line). judgement p l.fact) xs)
meanings p [] = refl
meanings p (x ∷ xs) = ap (λ (l : List Principal). terms_of (judgement p x.fact) ++ l) (meanings p xs)

judgements : (p : ℕ → Principal) (xs : List Line) → flat_map (λ (l : Line). terms_of (judgement p l.fact)) xs ≡ flat_map terms_of (map (λ (l : Line). judgement p l.fact) xs)
judgements p [] = refl
judgements p (x ∷ xs) = ap (λ (l : List Principal). terms_of (judgement p x.fact) ++ l) (judgements p xs)

module _ (nodes : List Node) (used : List ℕ) (lines : List Line) (new : List Node) (out : List Line) (c : CarriesLines nodes used lines new out) where
  facts_same : map (λ (m : Line). judgement (named new) m.fact) out ≡ map (λ (l : Line). judgement (named nodes) l.fact) lines
  facts_same =
      same_lists (λ (l : Line). judgement (named nodes) l.fact) (λ (m : Line). judgement (named new) m.fact) lines out c.long
      (λ i l e. let (m, at, is) = c.each i l e in (m, at, is.says))

  -- the old line of a new one
  pub old_line : (i : ℕ) (m : Line) → slice_get out i ≡ Some m → (l : Line) × (slice_get lines i ≡ Some l) × IsCarriedLine nodes used new l m
  old_line i m e =
      let fits : i < length lines = omega (arith, slice_get_within out i m e, c.long) in
      let at : slice_get lines i ≡ Some (get_or lines i m) = slice_get-get_or lines i m fits in
      let (m', at', is) = c.each i (get_or lines i m) at in
      let same : m' ≡ m = same_Some m' m (sym at' ∙ e) in
      (get_or lines i m, at, subst (λ (x : Line). IsCarriedLine nodes used new (get_or lines i m) x) same is)

  within : All (λ (l : Line). IsBelow (length new) l.fact) out
  within k d h = let (l, at, is) = old_line k (get_or out k d) (slice_get-get_or out k d h) in is.below

  table_is : principals_of new ≡ canonical_table (lines_of (parts_of new out))
  table_is =
      c.grown ∙ first_of_each-met (flat_map post_order (flat_map (λ (l : Line). terms_of (judgement (named nodes) l.fact)) lines)) ∙
      ap (λ (ts : List Principal). first_of_each (flat_map post_order ts)) (judgements (named nodes) lines ∙ ap (flat_map terms_of) (sym facts_same) ∙ sym (meanings (named new) out))

  pub carried_parts : length new ≤ 1296 → length lines ≤ 1762560 → IsProofParts (parts_of new out)
  carried_parts few short = record {
    canonical = record { ordered = c.table.ordered; within = within; table = table_is };
    nodes_fit = few;
    lines_fit = omega (arith, c.long, short);
  }

-- what follows, follows when it is carried over
module _ (nodes : List Node) (table : IsNodeTable nodes) (used : List ℕ) (new : List Node) (anchors : List Anchor) (claims said : List Claim)
    (cited : (j k : ℕ) (x : Claim) → slice_get used j ≡ Some k → slice_get claims k ≡ Some x → slice_get said j ≡ Some x) where
  carried_follows : (earlier : List Fact) (l m : Line) → IsCarriedLine nodes used new l m → Gives nodes anchors claims earlier l.fact l.step →
      Follows anchors said (map (judgement (named nodes)) earlier) (meaning (named new) m)
  carried_follows earlier l m is g =
      let step : Gives nodes anchors said earlier l.fact (moved (λ i. i) is.recited.cite l.step)
      = gives_moved nodes anchors claims said earlier earlier (λ i. i) is.recited.cite l.fact l.step (λ i q x e. e) (λ k q x e. cited (is.recited.cite k) k x (is.recited.stands k q) e) g in
      let f : Follows anchors said (map (judgement (named nodes)) earlier) (line (judgement (named nodes) l.fact) (moved (λ i. i) is.recited.cite l.step))
      = gives-follows nodes table anchors said earlier step in
      rw (is.says, is.recited.is) f

  pub all_follow : (earlier : List Fact) (lines out : List Line) → length out ≡ length lines →
      ((i : ℕ) (l : Line) → slice_get lines i ≡ Some l → (m : Line) × (slice_get out i ≡ Some m) × IsCarriedLine nodes used new l m) →
      EachGives nodes anchors claims earlier lines → EachFollows anchors said (map (judgement (named nodes)) earlier) (map (meaning (named new)) out)
  all_follow earlier [] [] e each g = tt
  all_follow earlier [] (m ∷ out) e each g = absurd (omega arith)
  all_follow earlier (l ∷ lines) [] e each g = absurd (omega arith)
  all_follow earlier (l ∷ lines) (m ∷ out) e each g =
      let (m', at, is) = each 0 l refl in
      let same : m ≡ m' = same_Some m m' at in
      let here : IsCarriedLine nodes used new l m = rw same is in
      let rest : EachFollows anchors said (map (judgement (named nodes)) (earlier ++ l.fact ∷ [])) (map (meaning (named new)) out)
      = all_follow (earlier ++ l.fact ∷ []) lines out (omega arith) (λ i. each (suc i)) g.1 in
      let facts : map (judgement (named nodes)) (earlier ++ l.fact ∷ []) ≡ map (judgement (named nodes)) earlier ++ judgement (named new) m.fact ∷ []
      = map-append (judgement (named nodes)) earlier (l.fact ∷ []) ∙ ap (λ (f : Judgement). map (judgement (named nodes)) earlier ++ f ∷ []) (sym here.says) in
      (carried_follows earlier l m here g.0, rw facts at rest)

pub last_at : (xs : List Meaning) (k : ℕ) (m : Meaning) → length xs ≡ k + 1 → slice_get xs k ≡ Some m → last_fact xs ≡ Some m.fact
last_at [] k m h e = absurd (omega arith)
last_at (x ∷ []) zero m h e = ap (λ (z : Meaning). Some z.fact) (same_Some x m e)
last_at (x ∷ []) (suc k) m h e = absurd (omega arith)
last_at (x ∷ y ∷ xs) zero m h e = absurd (omega arith)
last_at (x ∷ y ∷ xs) (suc k) m h e = last_at (y ∷ xs) k m (omega arith) e
