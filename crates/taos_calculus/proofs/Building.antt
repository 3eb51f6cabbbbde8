-- What can be derived is closed under the rules: derivations are put together.
use Rattle.std.proofs.Common.{◌≡◌, ℕ, zero, suc, ◌+◌, List, [], ◌∷◌, ◌++◌, length, map, slice_get, Some, refl, ◌∙◌, ap, arith, All, append_assoc, get_or}
use Rattle.std.proofs.lemmas.List.{map-append, append-nil}
use Rattle.std.proofs.lemmas.List.Elements.{All-head, All-tail, All-nil, All-cons, All-append, All-map}
use Rattle.std.proofs.lemmas.Option.{none-some}
use Rattle.prin_term.specs.declared.term.Anchor.{Anchor}
use Rattle.prin_term.specs.Principal.{Principal}
use Rattle.taos_calculus.specs.Rules.{Claim, Judgement, Line, line, EachFollows, last_fact}
use Rattle.taos_calculus.specs.Saturation.{IsWithin, IsSaturated}
use Rattle.taos_calculus.specs.Tidy.{premises_of, cites_of, facts, DerivableWithin, moved}
use Rattle.taos_calculus.proofs.Moving.{Stands, follows_moved}

pub slice_get-front : {X : Type 0} (xs ys : List X) (i : ℕ) (x : X) → slice_get xs i ≡ Some x → slice_get (xs ++ ys) i ≡ Some x
slice_get-front [] ys i x e = absurd (none-some x e)
slice_get-front (y ∷ xs) ys zero x e = e
slice_get-front (y ∷ xs) ys (suc i) x e = slice_get-front xs ys i x e

pub slice_get-back : {X : Type 0} (xs ys : List X) (i k : ℕ) → k ≡ length xs + i → slice_get (xs ++ ys) k ≡ slice_get ys i
slice_get-back [] ys i k e = let s : k ≡ i = omega arith in ap (slice_get ys) s
slice_get-back (x ∷ xs) ys i zero e = absurd (omega arith)
slice_get-back (x ∷ xs) ys i (suc k) e = slice_get-back xs ys i k (omega arith)

pub All-of : {X : Type 0} (P : X → Type 0) (xs : List X) → ((x : X) → P x) → All P xs
All-of P [] h = All-nil P
All-of P (x ∷ xs) h = All-cons P x xs (h x) (All-of P xs h)

pub last_fact-end : (xs : List Line) (l : Line) → last_fact (xs ++ l ∷ []) ≡ Some l.fact
last_fact-end [] l = refl
last_fact-end (x ∷ []) l = refl
last_fact-end (x ∷ y ∷ xs) l = last_fact-end (y ∷ xs) l

-- the last line's number
pub last_stands : (xs : List Line) (fact : Judgement) → last_fact xs ≡ Some fact → (k : ℕ) × (slice_get (facts xs) k ≡ Some fact)
last_stands [] fact e = absurd (none-some fact e)
last_stands (x ∷ []) fact e = (0, e)
last_stands (x ∷ y ∷ xs) fact e = let (k, s) = last_stands (y ∷ xs) fact e in (suc k, s)

module _ (anchors : List Anchor) (claims : List Claim) where
  pub each_append : (earlier : List Judgement) (xs ys : List Line) →
      EachFollows anchors claims earlier xs → EachFollows anchors claims (earlier ++ facts xs) ys → EachFollows anchors claims earlier (xs ++ ys)
  each_append e [] ys f g = rw append-nil at g
  each_append e (x ∷ xs) ys f g = (f.0, each_append (e ++ x.fact ∷ []) xs ys f.1 (rw append_assoc g))

  -- the line, with its premises n places further on
  abbrev later : ℕ → Line → Line
  later n l = line l.fact (moved (λ i. n + i) (λ i. i) l.step)

  each_later : (front earlier : List Judgement) (xs : List Line) →
      EachFollows anchors claims earlier xs → EachFollows anchors claims (front ++ earlier) (map (later (length front)) xs)
  each_later front e [] f = tt
  each_later front e (x ∷ xs) f = (
    follows_moved anchors claims claims e (front ++ e) (λ i. length front + i) (λ i. i) x
        (All-of (Stands e (front ++ e) (λ i. length front + i)) (premises_of x.step) (λ i y h. slice_get-back front e i (length front + i) refl ∙ h))
        (All-of (Stands claims claims (λ i. i)) (cites_of x.step) (λ i c h. h))
        f.0,
    rw append_assoc (each_later front (e ++ x.fact ∷ []) xs f.1),
  )

  facts-later : (n : ℕ) (xs : List Line) → facts (map (later n) xs) ≡ facts xs
  facts-later n [] = refl
  facts-later n (x ∷ xs) = ap (λ l. x.fact ∷ l) (facts-later n xs)

  -- two derivations, the second behind the first
  abbrev behind : List Line → List Line → List Line
  behind xs ys = xs ++ map (later (length (facts xs))) ys

  each_behind : (xs ys : List Line) → EachFollows anchors claims [] xs → EachFollows anchors claims [] ys → EachFollows anchors claims [] (behind xs ys)
  each_behind xs ys f g =
      each_append [] xs (map (later (length (facts xs))) ys) f (rw append-nil at (each_later (facts xs) [] ys g))

  facts-behind : (xs ys : List Line) → facts (behind xs ys) ≡ facts xs ++ facts ys
  facts-behind xs ys =
      map-append (λ (l : Line). l.fact) xs (map (later (length (facts xs))) ys) ∙ ap (λ l. facts xs ++ l) (facts-later (length (facts xs)) ys)

  module _ (U : Principal → Type 0) where
    -- the facts of a list stand somewhere in one derivation
    record Gathered (earlier : List Judgement) : Type 0 where
      lines : List Line
      at : ℕ → ℕ
      follow : EachFollows anchors claims [] lines
      within : All (λ l. IsWithin U l.fact) lines
      stand : (i : ℕ) → Stands earlier (facts lines) at i

    within_later : (n : ℕ) (xs : List Line) → All (λ l. IsWithin U l.fact) xs → All (λ l. IsWithin U l.fact) (map (later n) xs)
    within_later n xs all = All-map (λ (l : Line). IsWithin U l.fact) (later n) xs all

    -- one fact more, at the end
    place : ℕ → (ℕ → ℕ) → ℕ → ℕ
    place n at zero = n
    place n at (suc i) = at i

    place_stands : (x : Judgement) (xs front back : List Judgement) (at : ℕ → ℕ) (k : ℕ) →
        ((i : ℕ) → Stands xs front at i) → slice_get back k ≡ Some x →
        (i : ℕ) → Stands (x ∷ xs) (front ++ back) (place (length front + k) at) i
    unfolding place
    place_stands x xs front back at k all s zero y e = slice_get-back front back k (length front + k) refl ∙ s ∙ e
    place_stands x xs front back at k all s (suc i) y e = slice_get-front front back (at i) y (all i y e)

    gather_more : (x : Judgement) (xs : List Judgement) → Gathered xs → DerivableWithin U anchors claims x → Gathered (x ∷ xs)
    gather_more x xs g d =
        let (k, s) = last_stands d.lines x d.proves.last in
        record {
          lines = behind g.lines d.lines;
          at = place (length (facts g.lines) + k) g.at;
          follow = each_behind g.lines d.lines g.follow d.proves.follow;
          within = All-append (λ (l : Line). IsWithin U l.fact) g.lines (map (later (length (facts g.lines))) d.lines) g.within (within_later (length (facts g.lines)) d.lines d.within);
          stand = rw facts-behind (place_stands x xs (facts g.lines) (facts d.lines) g.at k g.stand s);
        }

    gather : (earlier : List Judgement) → All (DerivableWithin U anchors claims) earlier → Gathered earlier
    gather [] all = record { lines = []; at = λ i. i; follow = tt; within = All-nil (λ (l : Line). IsWithin U l.fact); stand = λ i x e. e }
    gather (x ∷ xs) all =
        gather_more x xs (gather xs (All-tail (DerivableWithin U anchors claims) x xs all)) (All-head (DerivableWithin U anchors claims) x xs all)

    -- what follows from facts that are derivable within U, and is within U, is derivable within U
    pub within_saturated : IsSaturated U (DerivableWithin U anchors claims) anchors claims
    within_saturated earlier l all f w =
        let g : Gathered earlier = gather earlier all in
        let end : Line = line l.fact (moved g.at (λ i. i) l.step) in
        record {
          lines = g.lines ++ end ∷ [];
          proves = record {
            follow = each_append [] g.lines (end ∷ []) g.follow (
              follows_moved anchors claims claims earlier (facts g.lines) g.at (λ i. i) l
                  (λ k i h. g.stand (get_or (premises_of l.step) k i)) (All-of (Stands claims claims (λ i. i)) (cites_of l.step) (λ i c h. h)) f,
              tt,
            );
            last = last_fact-end g.lines end;
          };
          within = All-append (λ (l : Line). IsWithin U l.fact) g.lines (end ∷ []) g.within
              (All-cons (λ (l : Line). IsWithin U l.fact) end [] w (All-nil (λ (l : Line). IsWithin U l.fact)));
        }
