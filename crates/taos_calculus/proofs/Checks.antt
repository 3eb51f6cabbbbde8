-- A check of lines over numbers is one of the lines over principals that they mean.
use Rattle.std.proofs.Common.{◌≡◌, ◌≢◌, ℕ, zero, suc, ◌+◌, ◌-◌, ◌<◌, ◌≤◌, List, [], ◌∷◌, ◌++◌, Option, Some, None, Result, Ok, Err, slice_get, get_or, length, map, take, refl, sym, ap, subst, ◌∙◌, arith, All, append_assoc, append-nil}
use Rattle.std.specs.Prelude.{IsOk, option_map}
use Rattle.std.proofs.lemmas.List.{take-map, take_more, take_all, length-map, get_or-map}
use Rattle.std.proofs.lemmas.List.Elements.{All-nil, All-cons, All-head, All-tail, All-take}
use Rattle.std.proofs.lemmas.Option.{none-some, slice_get-map, slice_get-get_or, slice_get_within, same_Some}
use Rattle.prin_term.specs.declared.term.Anchor.{Anchor}
use Rattle.prin_term.specs.Principal.{Principal}
use Rattle.taos_calculus.specs.declared.check.Conclusion.{Conclusion}
use Rattle.taos_calculus.specs.declared.check.BadLine.{BadLine}
use Rattle.taos_calculus.specs.declared.line.Node.{Node}
use Rattle.taos_calculus.specs.declared.line.Fact.{Fact}
use Rattle.taos_calculus.specs.declared.line.Step.{Step}
use Rattle.taos_calculus.specs.declared.line.Line.{Line}
use Rattle.taos_calculus.specs.Rules.{Claim, Judgement, SpeaksFor, Says, Follows, EachFollows, last_fact, Proves, Line as Meaning}
use Rattle.taos_calculus.specs.Tables.{Parts, named, judgement, meaning, parts_of, lines_of, IsBelow, IsNodeTable}
use Rattle.taos_calculus.specs.Tidy.{facts}
use Rattle.taos_calculus.specs.Numbered.{Gives, facts_at}
use Rattle.taos_calculus.specs.Checking.{IsBad, stops, concludes_nothing, Concludes, IsChecked}
use Rattle.taos_calculus.proofs.Building.{each_append}
use Rattle.taos_calculus.proofs.Induction.{All-at}
use Rattle.taos_calculus.proofs.Numbers.{gives-follows, speaks_given, says_given}

abbrev no_line : Line
no_line = record { fact = Fact.Speaks 0 0; step = Step.Same }

facts-meaning : (p : ℕ → Principal) (ls : List Line) → facts (map (meaning p) ls) ≡ map (judgement p) (facts_at ls)
facts-meaning p [] = refl
facts-meaning p (l ∷ ls) = ap (λ (js : List Judgement). judgement p l.fact ∷ js) (facts-meaning p ls)

facts_below : (n : ℕ) (ls : List Line) → All (λ l. IsBelow n l.fact) ls → All (IsBelow n) (facts_at ls)
facts_below n [] all = All-nil (IsBelow n)
facts_below n (l ∷ ls) all =
    All-cons (IsBelow n) l.fact (facts_at ls) (All-head (λ (m : Line). IsBelow n m.fact) l ls all) (facts_below n ls (All-tail (λ (m : Line). IsBelow n m.fact) l ls all))

-- the last line's fact, by its number
last_is : (ls : List Meaning) → last_fact ls ≡ slice_get (facts ls) (length ls - 1)
last_is [] = refl
last_is (l ∷ []) = refl
last_is (l ∷ m ∷ ls) =
    let place : suc (length (m ∷ ls) - 1) ≡ length (l ∷ m ∷ ls) - 1 = omega arith in
    last_is (m ∷ ls) ∙ ap (slice_get (facts (l ∷ m ∷ ls))) place

module _ (nodes : List Node) (table : IsNodeTable nodes) (anchors : List Anchor) (claims : List Claim) where
  abbrev p : ℕ → Principal
  p i = named nodes i

  -- a line that a step gives follows, and the other way
  given_follows : (earlier : List Line) (l : Line) → Gives nodes anchors claims (facts_at earlier) l.fact l.step → Follows anchors claims (facts (map (meaning p) earlier)) (meaning p l)
  given_follows earlier l g =
      subst (λ (js : List Judgement). Follows anchors claims js (meaning p l)) (sym (facts-meaning p earlier)) (gives-follows nodes table anchors claims (facts_at earlier) g)

  follows_given : (earlier : List Line) (l : Line) → All (λ (m : Line). IsBelow (length nodes) m.fact) earlier → IsBelow (length nodes) l.fact →
      Follows anchors claims (facts (map (meaning p) earlier)) (meaning p l) → Gives nodes anchors claims (facts_at earlier) l.fact l.step
  follows_given earlier l all below f =
      go l.fact below refl (subst (λ (js : List Judgement). Follows anchors claims js (meaning p l)) (facts-meaning p earlier) f)
    where
      go : (fact : Fact) → IsBelow (length nodes) fact → l.fact ≡ fact → Follows anchors claims (map (judgement p) (facts_at earlier)) (meaning p l) → Gives nodes anchors claims (facts_at earlier) fact l.step
      go (Fact.Speaks a b) h e g =
          speaks_given nodes table anchors claims (facts_at earlier) (meaning p l) a b (facts_below (length nodes) earlier all) h.0 h.1 (ap (judgement p) e) g
      go (Fact.Says a b c) h e g =
          says_given nodes table anchors claims (facts_at earlier) (meaning p l) a b c (facts_below (length nodes) earlier all) h.0 h.1 h.2 (ap (judgement p) e) g

  module _ (lines : List Line) (below : All (λ (l : Line). IsBelow (length nodes) l.fact) lines) where
    abbrev means : List Meaning
    means = lines_of (parts_of nodes lines)

    abbrev pub FollowTo : ℕ → Type 0
    FollowTo k = EachFollows anchors claims [] (take k means)

    front : (k : ℕ) → take k means ≡ map (meaning p) (take k lines)
    front k = take-map (meaning p) k lines

    pub one_more : (k : ℕ) (d : Line) → k < length lines → FollowTo k → Gives nodes anchors claims (facts_at (take k lines)) (get_or lines k d).fact (get_or lines k d).step → FollowTo (k + 1)
    one_more k d h so_far g =
        let m : Meaning = meaning p (get_or lines k d) in
        let follows : Follows anchors claims (facts (take k means)) m =
        subst (λ (ms : List Meaning). Follows anchors claims (facts ms) m) (sym (front k)) (given_follows (take k lines) (get_or lines k d) g) in
        let at : get_or means k m ≡ m = get_or-map (meaning p) lines k d m h in
        let longer : take (k + 1) means ≡ take k means ++ m ∷ [] =
        take_more means k m (omega (arith, length-map lines (meaning p), h)) ∙ ap (λ (x : Meaning). take k means ++ x ∷ []) at in
        subst (λ (ms : List Meaning). EachFollows anchors claims [] ms) (sym longer)
        (each_append anchors claims [] (take k means) (m ∷ []) so_far (follows, tt))

    pub does_not : (k : ℕ) (d : Line) → k < length lines → ¬ Gives nodes anchors claims (facts_at (take k lines)) (get_or lines k d).fact (get_or lines k d).step →
        (l : Meaning) → slice_get means k ≡ Some l → ¬ Follows anchors claims (facts (take k means)) l
    does_not k d h bad l at f =
        let stands : slice_get means k ≡ Some (meaning p (get_or lines k d)) =
        slice_get-map (meaning p) lines k ∙ ap (option_map (meaning p)) (slice_get-get_or lines k d h) in
        let same : l ≡ meaning p (get_or lines k d) = same_Some l (meaning p (get_or lines k d)) (sym at ∙ stands) in
        let here : Follows anchors claims (facts (map (meaning p) (take k lines))) (meaning p (get_or lines k d)) =
        subst (λ (ms : List Meaning). Follows anchors claims (facts ms) (meaning p (get_or lines k d))) (front k) (subst (λ (m : Meaning). Follows anchors claims (facts (take k means)) m) same f) in
        bad (follows_given (take k lines) (get_or lines k d) (All-take (λ (m : Line). IsBelow (length nodes) m.fact) k lines below) (below k d h) here)

    pub nothing_there : (k : ℕ) → length lines ≤ k → (l : Meaning) → slice_get means k ≡ Some l → ⊥
    nothing_there k h l e = let within = slice_get_within means k l e in omega (arith, length-map lines (meaning p), within)

    pub all_follow : (k : ℕ) → length lines ≤ k → FollowTo k → EachFollows anchors claims [] means
    all_follow k h so_far = subst (λ (ms : List Meaning). EachFollows anchors claims [] ms) (take_all k means (omega (arith, length-map lines (meaning p), h))) so_far

    -- the last line's fact
    last_means : last_fact means ≡ option_map (judgement p) (slice_get (facts_at lines) (length lines - 1))
    last_means =
        let place : length means - 1 ≡ length lines - 1 = omega (arith, length-map lines (meaning p)) in
        last_is means ∙ ap (slice_get (facts means)) place ∙ ap (λ (js : List Judgement). slice_get js (length lines - 1)) (facts-meaning p lines) ∙
        slice_get-map (judgement p) (facts_at lines) (length lines - 1)

    pub concludes : (a b : ℕ) → slice_get (facts_at lines) (length lines - 1) ≡ Some (Fact.Speaks a b) → last_fact means ≡ Some (SpeaksFor (p a) (p b))
    concludes a b e = last_means ∙ ap (option_map (judgement p)) e

    pub conclusion_below : (a b : ℕ) → slice_get (facts_at lines) (length lines - 1) ≡ Some (Fact.Speaks a b) → IsBelow (length nodes) (Fact.Speaks a b)
    conclusion_below a b e = All-at (IsBelow (length nodes)) (facts_at lines) (length lines - 1) (Fact.Speaks a b) (facts_below (length nodes) lines below) e

    pub concludes_none : ((a b : ℕ) → slice_get (facts_at lines) (length lines - 1) ≢ Some (Fact.Speaks a b)) → (l r : Principal) → last_fact means ≢ Some (SpeaksFor l r)
    concludes_none lacks l r e = go (slice_get (facts_at lines) (length lines - 1)) refl
      where
        go : (o : Option Fact) → slice_get (facts_at lines) (length lines - 1) ≡ o → ⊥
        go None s = let q : last_fact means ≡ None = last_means ∙ ap (option_map (judgement p)) s in absurd (cc)
        go (Some (Fact.Speaks a b)) s = lacks a b s
        go (Some (Fact.Says a b c)) s = let q : last_fact means ≡ Some (Says (p a) (p b) (p c)) = last_means ∙ ap (option_map (judgement p)) s in absurd (cc)

    -- ---- what the check answers

    pub bad_line : (k : ℕ) → k < length lines → FollowTo k → ((l : Meaning) → slice_get means k ≡ Some l → ¬ Follows anchors claims (facts (take k means)) l) → IsBad anchors claims means k
    bad_line k h so_far here =
        let m : Meaning = get_or means k (meaning p (get_or lines k no_line)) in
        let stands : slice_get means k ≡ Some m = slice_get-get_or means k (meaning p (get_or lines k no_line)) (omega (arith, length-map lines (meaning p), h)) in
        stops {l = m} so_far stands (here m stands)

    pub bad_end : (k : ℕ) → length lines ≤ k → k ≤ length lines → FollowTo k → ((a b : ℕ) → slice_get (facts_at lines) (length lines - 1) ≢ Some (Fact.Speaks a b)) → IsBad anchors claims means k
    bad_end k h within so_far lacks = concludes_nothing (omega (arith, length-map lines (meaning p), h, within)) (all_follow k h so_far) (concludes_none lacks)

    pub good_end : (k : ℕ) → length lines ≤ k → FollowTo k → (a b : ℕ) → slice_get (facts_at lines) (length lines - 1) ≡ Some (Fact.Speaks a b) → Concludes anchors claims (parts_of nodes lines) a b
    good_end k h so_far a b e = record {
      below = conclusion_below a b e;
      proves = record { follow = all_follow k h so_far; last = concludes a b e };
    }

-- ---- what proves is no bad proof

-- each line follows from those before it
each_at : (anchors : List Anchor) (claims : List Claim) (earlier : List Judgement) (ls : List Meaning) → EachFollows anchors claims earlier ls →
    (k : ℕ) (l : Meaning) → slice_get ls k ≡ Some l → Follows anchors claims (earlier ++ facts (take k ls)) l
each_at anchors claims earlier [] f k l e = absurd (none-some l e)
each_at anchors claims earlier (m ∷ ls) f zero l e =
    let same : m ≡ l = same_Some m l e in
    let whole : earlier ++ [] ≡ earlier = append-nil earlier in
    subst (λ (x : Meaning). Follows anchors claims (earlier ++ []) x) same (rw whole f.0)
each_at anchors claims earlier (m ∷ ls) f (suc k) l e =
    let whole : (earlier ++ m.fact ∷ []) ++ facts (take k ls) ≡ earlier ++ m.fact ∷ facts (take k ls) = append_assoc earlier (m.fact ∷ []) (facts (take k ls)) in
    subst (λ (js : List Judgement). Follows anchors claims js l) whole (each_at anchors claims (earlier ++ m.fact ∷ []) ls f.1 k l e)

pub bad_proves_none : (anchors : List Anchor) (claims : List Claim) (lines : List Meaning) (k : ℕ) (l r : Principal) → Proves anchors claims lines (SpeaksFor l r) → IsBad anchors claims lines k → ⊥
bad_proves_none anchors claims lines k l r proves (stops {l = m} before stands not_so) = not_so (each_at anchors claims [] lines proves.follow k m stands)
bad_proves_none anchors claims lines k l r proves (concludes_nothing whole follow lacks) = lacks l r proves.last

pub proved_is_ok : (anchors : List Anchor) (claims : List Claim) (parts : Parts) (answer : Result Conclusion BadLine) → IsChecked anchors claims parts answer →
    (l r : Principal) → Proves anchors claims (lines_of parts) (SpeaksFor l r) → IsOk answer
proved_is_ok anchors claims parts (Ok c) is l r proves = refl
proved_is_ok anchors claims parts (Err e) is l r proves = absurd (bad_proves_none anchors claims (lines_of parts) e.line l r proves is)
