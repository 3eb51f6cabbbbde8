-- What is due to an Ask stays so when the journal goes on, and is one ruling.
use Rattle.std.proofs.Common.{◌≡◌, ◌⊎◌, inl, inr, ℕ, zero, suc, ◌<◌, List, [], ◌∷◌, ◌++◌, length, Option, Some, None, slice_get, refl, sym, ap, ap₂, ◌∙◌, subst, subst₂, arith, length-append}
use Rattle.std.specs.Prelude.{Contains}
use Rattle.std.proofs.lemmas.Bool.{cases_lt}
use Rattle.std.proofs.lemmas.Option.{same_Some, slice_get_within}
use Rattle.prin_term.specs.declared.term.Anchor.{Anchor}
use Rattle.prin_term.specs.View.{Grant}
use Rattle.stmt_codec.specs.Certificates.{Certificate, live}
use Rattle.taos_calculus.specs.Monitor.{FirstEntry, MaySpeak}
use Rattle.denial_link.specs.Revived.{claims}
use Rattle.object_core.specs.declared.ruling.Ruling.{Ruling}
use Rattle.object_core.specs.declared.ruling.Ruling.TheVariants as ruling
use Rattle.agent_core.specs.declared.told.Told.{Told}
use Rattle.agent_core.specs.State.{Plan, Ask, Asks, Judged}
use Rattle.agent_core.specs.Journals.{Entry, entry, Begins, IsJudged, Stands}
use Rattle.agent_core.proofs.Journaling.{slice_front}
use Rattle.agent_core.proofs.Onward.{stands_on}
use Rattle.agent_core.proofs.AtPlaces.{slice_at}
use Rattle.audit_replay.specs.declared.due.Due.{Due}
use Rattle.audit_replay.specs.Legal.{IsDue, IsRulingBy, hit, missed}
use Rattle.audit_replay.specs.Marks.{AreMarks, IsMark}
use Rattle.audit_replay.specs.Stepping.{IsLastMark}
use Rattle.audit_replay.proofs.Splits.{same_parts}

-- ---- places

-- of two numbers, neither of which is below the other
neither_below : (m n : ℕ) → (m < n → ⊥) → (n < m → ⊥) → m ≡ n
neither_below m n a b =
    elim (cases_lt m n) [ inl lt ↦ absurd (a lt) | inr le ↦ elim (cases_lt n m) [ inl lt ↦ absurd (b lt) | inr ge ↦ omega arith ] ]

-- what stands in a list with one more stood there before, or is the last
pub slice_last : {X : Type 0} (xs : List X) (x : X) (i : ℕ) (y : X) → slice_get (xs ++ x ∷ []) i ≡ Some y → (slice_get xs i ≡ Some y) ⊎ ((i ≡ length xs) × (x ≡ y))
slice_last [] x zero y e = inr (refl, same_Some x y e)
slice_last [] x (suc i) y e = absurd cc
slice_last (z ∷ xs) x zero y e = inl e
slice_last (z ∷ xs) x (suc i) y e =
    elim (slice_last xs x i y e) [
      | inl is ↦ inl is
      | inr is ↦ inr (omega (arith, is.0), is.1)
    ]

pub stands_there : {E : Type 0} (journal before : List E) (place : ℕ) (e : E) → Stands journal place before e → slice_get journal place ≡ Some e
stands_there journal before place e s = ap₂ (λ l n. slice_get l n) s.is (sym s.placed) ∙ slice_at before e s.rest

-- ---- what is due

same_place : (list : List Grant) (right : ℕ) (P : Grant → Type 0) (j k : ℕ) (d e : Grant) → FirstEntry list right P j d → FirstEntry list right P k e → j ≡ k
same_place list right P j k d e f g =
    neither_below j k (λ lt. g.first j d lt f.stands f.has_right f.holds) (λ lt. f.first k e lt g.stands g.has_right g.holds)

one_ruling : (anchors : List Anchor) (certs : List Certificate) (moment : ℕ) (a : Ask) (r s : Ruling) → IsRulingBy anchors certs moment a r → IsRulingBy anchors certs moment a s → r ≡ s
one_ruling anchors certs moment a (ruling.Granted j) (ruling.Granted k) (d, f) (e, g) =
    ap ruling.Granted (same_place a.list a.right (λ h. MaySpeak anchors (claims (live certs moment)) a.subject h.who) j k d e f g)
one_ruling anchors certs moment a (ruling.Granted j) ruling.Denied (d, f) none =
    absurd (none (record { place = j; entry = d; stands = f.stands; has_right = f.has_right; speaks = f.holds }))
one_ruling anchors certs moment a ruling.Denied (ruling.Granted k) none (e, g) =
    absurd (none (record { place = k; entry = e; stands = g.stands; has_right = g.has_right; speaks = g.holds }))
one_ruling anchors certs moment a ruling.Denied ruling.Denied none also = refl

same_hit : (a b : Ask) (j k : ℕ) → Some (entry (Asks a) (Told.Hit j)) ≡ Some (entry (Asks b) (Told.Hit k)) → j ≡ k
same_hit a b j k e = let told : Told.Hit j ≡ Told.Hit k = ap (λ (y : Entry). y.told) (same_Some (entry (Asks a) (Told.Hit j)) (entry (Asks b) (Told.Hit k)) e) in cc

hit_is_no_miss : (a b : Ask) (j : ℕ) → Some (entry (Asks a) (Told.Hit j)) ≡ Some (entry (Asks b) Told.Miss) → ⊥
hit_is_no_miss a b j e = let told : Told.Hit j ≡ Told.Miss = ap (λ (y : Entry). y.told) (same_Some (entry (Asks a) (Told.Hit j)) (entry (Asks b) Told.Miss) e) in absurd cc

same_judged : (m n : ℕ) (cs ds : List Certificate) → Judged m cs ≡ Judged n ds → (m ≡ n) × (cs ≡ ds)
same_judged m n cs ds e = (cc, cc)

module _ (plan : Plan) where
  pub one_due : (journal : List Entry) (place : ℕ) (a : Ask) (r s : Ruling) → IsDue plan journal place a r → IsDue plan journal place a s → r ≡ s
  one_due journal place a r s (hit {e = j} is) (hit {e = k} also) = ap ruling.Granted (same_hit a a j k (sym is ∙ also))
  one_due journal place a r s (hit {e = j} is) (missed {before = before} stands judged by) =
      absurd (hit_is_no_miss a a j (sym is ∙ stands_there journal before place (entry (Asks a) Told.Miss) stands))
  one_due journal place a r s (missed {before = before} stands judged by) (hit {e = j} is) =
      absurd (hit_is_no_miss a a j (sym is ∙ stands_there journal before place (entry (Asks a) Told.Miss) stands))
  one_due journal place a r s (missed {before = before} {moment = m} {certs = cs} stands judged by) (missed {before = front} {moment = n} {certs = ds} also_stands also_judged also) =
      let miss : Entry = entry (Asks a) Told.Miss in
      let fronts : before ≡ front = (same_parts before front miss miss stands.rest also_stands.rest (sym stands.is ∙ also_stands.is) (stands.placed ∙ sym also_stands.placed)).0 in
      let here : IsJudged plan front a m cs = subst (λ (l : List Entry). IsJudged plan l a m cs) fronts judged in
      let (moments, all) = same_judged m n cs ds (sym here ∙ also_judged) in
      one_ruling plan.anchors ds n a r s (subst₂ (λ x xs. IsRulingBy plan.anchors xs x a r) moments all by) also

  pub due_on : (xs ys : List Entry) (place : ℕ) (a : Ask) (r : Ruling) → Begins xs ys → IsDue plan xs place a r → IsDue plan ys place a r
  due_on xs ys place a r begins (hit {e = e} is) =
      hit (ap (λ (l : List Entry). slice_get l place) begins.is ∙ slice_front xs begins.rest place (entry (Asks a) (Told.Hit e)) is)
  due_on xs ys place a r begins (missed stands judged by) = missed (stands_on stands begins) judged by

  -- ---- marks

  module _ (names : List (ℕ × ℕ)) (shard : ℕ) where
    mark_on : (journal : List Entry) (x : Entry) (place : ℕ) (mark : Option Due) → place < length journal → IsMark plan journal names shard place mark → IsMark plan (journal ++ x ∷ []) names shard place mark
    mark_on journal x place None below is = λ a told stands judged.
        elim (slice_last journal x place (entry (Asks a) told) stands) [
          | inl before ↦ is a told before judged
          | inr last ↦ omega (arith, below, last.0)
        ]
    mark_on journal x place (Some d) below is = record {
      asked = is.asked;
      told = is.told;
      stands = slice_front journal (x ∷ []) place (entry (Asks is.asked) is.told) is.stands;
      judged = is.judged;
      due = due_on journal (journal ++ x ∷ []) place is.asked d.ruling (record { rest = x ∷ []; is = refl }) is.due;
      named = is.named;
    }

    -- one entry more, and its mark
    pub marks_more : (journal : List Entry) (x : Entry) (marks : List (Option Due)) (mark : Option Due) → AreMarks plan journal names shard marks → IsLastMark plan (journal ++ x ∷ []) mark →
        (Contains names (shard, length journal) → ⊥) → AreMarks plan (journal ++ x ∷ []) names shard (marks ++ mark ∷ [])
    marks_more journal x marks mark are last new = record {
      counted = omega (arith, are.counted, length-append journal (x ∷ []), length-append marks (mark ∷ []));
      each = λ place m stands.
          elim (slice_last marks mark place m stands) [
            | inl before ↦ mark_on journal x place m (omega (arith, are.counted, slice_get_within marks place m before)) (are.each place m before)
            | inr here ↦
                let end : place ≡ length journal = omega (arith, here.0, are.counted) in
                let absent : Contains names (shard, place) → ⊥ = subst (λ (n : ℕ). Contains names (shard, n) → ⊥) (sym end) new in
                subst (IsMark plan (journal ++ x ∷ []) names shard place) here.1 (last names shard place (omega (arith, end, length-append journal (x ∷ []))) absent)
          ];
    }
