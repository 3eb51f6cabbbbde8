-- No question has two first links.
use Rattle.std.proofs.Common.{◌≡◌, inl, inr, ℕ, suc, ◌+◌, ◌<◌, ◌++◌, ◌∷◌, [], List, take, Contains, AllPairs, All, slice_get, sum_by, refl, sym, ◌∙◌, ap, ap₂, subst, arith}
use Rattle.std.proofs.lemmas.Bool.{cases_lt}
use Rattle.std.proofs.lemmas.Option.{same_Some}
use Rattle.std.proofs.lemmas.List.Elements.{All-contains, Contains-append_right}
use Rattle.std.specs.Ordering.{nat_cmp, ordering_reverse, ordering_then}
use Rattle.std.specs.Cmp.Lexicographic.{slice_cmp}
use Rattle.std.specs.declared.cmp.Ordering.{Ordering}
use Rattle.std.specs.declared.cmp.Ordering.TheVariants.{Less, Greater}
use Rattle.prin_term.specs.declared.term.Anchor.{Anchor}
use Rattle.prin_term.specs.Principal.{Principal, operands, node_count}
use Rattle.prin_term.specs.View.{Grant}
use Rattle.stmt_codec.specs.Certificates.{Certificate, digest_of, IsDead, IsEarly}
use Rattle.stmt_codec.proofs.Living.{dead_not_early}
use Rattle.taos_calculus.specs.Monitor.{MaySpeak, FirstEntry}
use Rattle.denial_link.specs.declared.link.Link.{Link}
use Rattle.denial_link.specs.declared.link.Link.TheVariants.{Expired, Early, Missing}
use Rattle.denial_link.specs.Keys.{Key, time_of}
use Rattle.denial_link.specs.Order.{order, GoesBefore, IsAt, IsOut, OutInOrder}
use Rattle.denial_link.specs.Needed.{IsNeeded}
use Rattle.denial_link.specs.Revived.{claims, revived}
use Rattle.denial_link.specs.Links.{IsReached, Lacks, here, below, IsFirstLink, no_entry, expired, early, missing}
use Rattle.denial_link.proofs.Members.{has-head, has-cons, has-cases, has-nil}
use Rattle.denial_link.proofs.Sorting.{in_time, key_cmp, key_total}

-- of two numbers, neither of which is below the other
neither_below : (m n : ℕ) → (m < n → ⊥) → (n < m → ⊥) → m ≡ n
neither_below m n a b =
    elim (cases_lt m n) [ inl lt ↦ absurd (a lt) | inr le ↦ elim (cases_lt n m) [ inl lt ↦ absurd (b lt) | inr ge ↦ omega arith ] ]

-- ---- the first entry

same_place : (list : List Grant) (right : ℕ) (P : Grant → Type 0) (j k : ℕ) (d e : Grant) → FirstEntry list right P j d → FirstEntry list right P k e → j ≡ k
same_place list right P j k d e f g =
    neither_below j k (λ lt. g.first j d lt f.stands f.has_right f.holds) (λ lt. f.first k e lt g.stands g.has_right g.holds)

same_entry : (list : List Grant) (right : ℕ) (P : Grant → Type 0) (j k : ℕ) (d e : Grant) → FirstEntry list right P j d → FirstEntry list right P k e → d ≡ e
same_entry list right P j k d e f g =
    same_Some d e (sym f.stands ∙ ap (slice_get list) (same_place list right P j k d e f g) ∙ g.stands)

-- ---- the order of those that are not live

module _ (Dead : ℕ → Type 0) (R : ℕ → ℕ → Type 0) (not_both : (i j : ℕ) → Dead i → Dead j → R i j → R j i → ⊥) where
  later : (x : ℕ) (xs : List ℕ) → AllPairs R (x ∷ xs) → (z : ℕ) → Contains xs z → R x z
  later x xs pairs z (k, lt, e) = subst (R x) e (pairs 0 (suc k) z (omega arith) (omega (arith, lt)))

  pairs_later : (x : ℕ) (xs : List ℕ) → AllPairs R (x ∷ xs) → AllPairs R xs
  pairs_later x xs pairs i j d lt jl = pairs (suc i) (suc j) d (omega (arith, lt)) (omega (arith, jl))

  -- what is behind the first of one list is behind the first of the other
  behind : (x y : ℕ) (xs ys : List ℕ) → x ≡ y → AllPairs R (x ∷ xs) → Dead x → ((z : ℕ) → Contains (x ∷ xs) z → Contains (y ∷ ys) z) → (z : ℕ) → Contains xs z → Contains ys z
  behind x y xs ys e pairs dead sub z h =
      elim (has-cases y ys z (sub z (has-cons x xs z h))) [
        | inl f ↦
            let r : R x z = later x xs pairs z h in
            let same : z ≡ x = sym (e ∙ f) in
            let twice : R x x = subst (R x) same r in
            absurd (not_both x x dead dead twice twice)
        | inr g ↦ g
      ]

  one_order : (xs ys : List ℕ) → AllPairs R xs → AllPairs R ys → ((z : ℕ) → Contains xs z → Dead z) → ((z : ℕ) → Contains xs z → Contains ys z) → ((z : ℕ) → Contains ys z → Contains xs z) → xs ≡ ys
  one_order [] [] p q d f g = refl
  one_order [] (y ∷ ys) p q d f g = absurd (has-nil y (g y (has-head y ys)))
  one_order (x ∷ xs) [] p q d f g = absurd (has-nil x (f x (has-head x xs)))
  one_order (x ∷ xs) (y ∷ ys) p q d f g =
      let dead_x : Dead x = d x (has-head x xs) in
      let dead_y : Dead y = d y (g y (has-head y ys)) in
      let heads : x ≡ y =
      elim (has-cases y ys x (f x (has-head x xs))) [
        | inl e ↦ sym e
        | inr in_ys ↦ elim (has-cases x xs y (g y (has-head y ys))) [
          | inl e ↦ e
          | inr in_xs ↦ absurd (not_both x y dead_x dead_y (later x xs p y in_xs) (later y ys q x in_ys))
        ]
      ] in
      ap₂ (λ (z : ℕ) (zs : List ℕ). z ∷ zs) heads
      (one_order xs ys (pairs_later x xs p) (pairs_later y ys q) (λ z h. d z (has-cons x xs z h)) (behind x y xs ys heads p dead_x f) (behind y x ys xs (sym heads) q dead_y g))

abbrev key_of : ℕ → ℕ → Certificate → Key
key_of moment i c = let t = time_of moment c in (t.0, record { 0 = t.1 }, t.2, digest_of c, i)

-- keys have the order of the certificates
by_keys : (moment i j : ℕ) (c d : Certificate) → key_cmp (key_of moment i c) (key_of moment j d) ≡ order moment i c j d
by_keys moment i j c d = ap (λ (t : Ordering). ordering_then (ordering_then t (slice_cmp nat_cmp (digest_of c) (digest_of d))) (nat_cmp i j)) (in_time moment c d)

one_way : (certs : List Certificate) (moment i j : ℕ) → IsOut certs moment i → IsOut certs moment j → GoesBefore moment certs i j → GoesBefore moment certs j i → ⊥
one_way certs moment i j (c, sc, dc) (d, sd, dd) there back =
    let e : key_cmp (key_of moment i c) (key_of moment j d) ≡ Less = by_keys moment i j c d ∙ there c d sc sd in
    let f : key_cmp (key_of moment j d) (key_of moment i c) ≡ Less = by_keys moment j i d c ∙ back d c sd sc in
    let g : key_cmp (key_of moment i c) (key_of moment j d) ≡ Greater = key_total.antisymm (key_of moment i c) (key_of moment j d) ∙ ap ordering_reverse f in
    let h : Less ≡ Greater = sym e ∙ g in
    absurd cc

same_order : (certs : List Certificate) (moment : ℕ) (xs ys : List ℕ) → OutInOrder certs moment xs → OutInOrder certs moment ys → xs ≡ ys
same_order certs moment xs ys a b =
    one_order (IsOut certs moment) (GoesBefore moment certs) (one_way certs moment) xs ys a.in_order b.in_order (λ z h. (a.out z).0 h)
    (λ z h. (b.out z).1 ((a.out z).0 h)) (λ z h. (a.out z).1 ((b.out z).0 h))

-- ---- the one that is needed

same_needed : (anchors : List Anchor) (certs : List Certificate) (moment : ℕ) (subject who : Principal) (c d : ℕ) → IsNeeded anchors certs moment subject who c → IsNeeded anchors certs moment subject who d → c ≡ d
same_needed anchors certs moment subject who c d a b =
    same_Some c d (sym a.stands ∙ ap₂ (λ (ps : List ℕ) (n : ℕ). slice_get ps n) places count ∙ b.stands)
  where
    places : a.places ≡ b.places
    places = same_order certs moment a.places b.places a.in_order b.in_order

    count : a.n ≡ b.n
    count = neither_below a.n b.n
        (λ lt. b.no_fewer (a.n + 1) (omega (arith, lt)) (subst (λ (ps : List ℕ). MaySpeak anchors (claims (revived certs moment (take (a.n + 1) ps))) subject who) places a.enough))
        (λ lt. a.no_fewer (b.n + 1) (omega (arith, lt)) (subst (λ (ps : List ℕ). MaySpeak anchors (claims (revived certs moment (take (b.n + 1) ps))) subject who) (sym places) b.enough))

-- ---- the first part that lacks

module _ (R : Principal → Type 0) where
  -- the first that is not reached stands behind the same ones
  pub record SameFront (front front' : List Principal) (q q' : Principal) : Type 0 where
    pub fronts : front ≡ front'
    pub firsts : q ≡ q'

  uncons : (x y : Principal) (xs ys : List Principal) → x ∷ xs ≡ y ∷ ys → (x ≡ y) × (xs ≡ ys)
  uncons x y xs ys e = (cc, cc)

  front_once : (front front' rest rest' : List Principal) (q q' : Principal) → front ++ q ∷ rest ≡ front' ++ q' ∷ rest' → ((p : Principal) → Contains front p → R p) → ((p : Principal) → Contains front' p → R p) → (R q → ⊥) → (R q' → ⊥) → SameFront front front' q q'
  front_once [] [] rest rest' q q' e all all' un un' = let (h, t) = uncons q q' rest rest' e in record { fronts = refl; firsts = h }
  front_once [] (y ∷ ys) rest rest' q q' e all all' un un' =
      let (h, t) = uncons q y rest (ys ++ q' ∷ rest') e in absurd (un (subst R (sym h) (all' y (has-head y ys))))
  front_once (x ∷ xs) [] rest rest' q q' e all all' un un' =
      let (h, t) = uncons x q' (xs ++ q ∷ rest) rest' e in absurd (un' (subst R h (all x (has-head x xs))))
  front_once (x ∷ xs) (y ∷ ys) rest rest' q q' e all all' un un' =
      let (h, t) = uncons x y (xs ++ q ∷ rest) (ys ++ q' ∷ rest') e in
      let s = front_once xs ys rest rest' q q' t (λ p c. all p (has-cons x xs p c)) (λ p c. all' p (has-cons y ys p c)) un un' in
      record { fronts = ap₂ (λ (z : Principal) (zs : List Principal). z ∷ zs) h s.fronts; firsts = s.firsts }

  -- where every operand is reached none is not
  all_reached : (p q : Principal) (front rest : List Principal) → operands p ≡ front ++ q ∷ rest → All R (operands p) → R q
  all_reached p q front rest e all =
      All-contains R (operands p) q all (subst (λ l. Contains l q) (sym e) (Contains-append_right front (q ∷ rest) q (has-head q rest)))

  same_part : (p : Principal) (k m : ℕ) → Lacks R p k → Lacks R p m → k ≡ m
  same_part p k m (here all) (here all') = refl
  same_part p k m (here all) (below {q} front rest o front_all un l e) = absurd (un (all_reached p q front rest o all))
  same_part p k m (below {q} front rest o front_all un l e) (here all) = absurd (un (all_reached p q front rest o all))
  same_part p k m (below {q = q} {k = i} front rest o front_all un l e) (below {q = q'} {k = j} front' rest' o' front_all' un' l' e') =
      let s = front_once front front' rest rest' q q' (sym o ∙ o') (λ x h. All-contains R front x front_all h) (λ x h. All-contains R front' x front_all' h) un un' in
      let sum : sum_by node_count front ≡ sum_by node_count front' = ap (sum_by node_count) s.fronts in
      let part : i ≡ j = same_part q i j l (subst (λ (x : Principal). Lacks R x j) (sym s.firsts) l') in
      omega (arith, e, e', sum, part)

-- ---- the first link

module _ (anchors : List Anchor) (certs : List Certificate) (moment : ℕ) (subject : Principal) (list : List Grant) (right : ℕ) where
  abbrev ByAll : Grant → Type 0
  ByAll g = MaySpeak anchors (claims certs) subject g.who

  same_revived : (i j c d : ℕ) (e e' : Grant) → FirstEntry list right ByAll i e → FirstEntry list right ByAll j e' → IsNeeded anchors certs moment subject e.who c → IsNeeded anchors certs moment subject e'.who d → (i ≡ j) × (c ≡ d)
  same_revived i j c d e e' f f' n n' =
      let entry : e ≡ e' = same_entry list right ByAll i j e e' f f' in
      (same_place list right ByAll i j e e' f f', same_needed anchors certs moment subject e.who c d n (subst (λ (g : Grant). IsNeeded anchors certs moment subject g.who d) (sym entry) n'))

  -- one that has ended is no early one
  not_both : (c d : ℕ) → c ≡ d → IsAt certs (IsDead moment) c → IsAt certs (IsEarly moment) d → ⊥
  not_both c d e (x, there, dead) (y, stands, ahead) =
      let same : x ≡ y = same_Some x y (sym there ∙ ap (slice_get certs) e ∙ stands) in
      dead_not_early moment x dead (subst (IsEarly moment) (sym same) ahead)

  pub one_link : (a b : Link) → IsFirstLink anchors certs moment subject list right a → IsFirstLink anchors certs moment subject list right b → a ≡ b
  one_link a b (no_entry none) (no_entry none') = refl
  one_link a b (no_entry none) (expired {k} e f n out) = absurd (none k e f.stands f.has_right tt)
  one_link a b (no_entry none) (early {k} e f n out) = absurd (none k e f.stands f.has_right tt)
  one_link a b (no_entry none) (missing {k} e f n l) = absurd (none k e f.stands f.has_right tt)
  one_link a b (expired {k} e f n out) (no_entry none) = absurd (none k e f.stands f.has_right tt)
  one_link a b (early {k} e f n out) (no_entry none) = absurd (none k e f.stands f.has_right tt)
  one_link a b (missing {k} e f n l) (no_entry none) = absurd (none k e f.stands f.has_right tt)
  one_link a b (expired {k} e f n out) (missing e' f' none l) = absurd (none k e f.stands f.has_right f.holds)
  one_link a b (early {k} e f n out) (missing e' f' none l) = absurd (none k e f.stands f.has_right f.holds)
  one_link a b (missing e' f' none l) (expired {k} e f n out) = absurd (none k e f.stands f.has_right f.holds)
  one_link a b (missing e' f' none l) (early {k} e f n out) = absurd (none k e f.stands f.has_right f.holds)
  one_link a b (expired {k = i} {c = c} e f n out) (expired {k = j} {c = d} e' f' n' out') = let s = same_revived i j c d e e' f f' n n' in ap₂ Expired s.0 s.1
  one_link a b (early {k = i} {c = c} e f n out) (early {k = j} {c = d} e' f' n' out') = let s = same_revived i j c d e e' f f' n n' in ap₂ Early s.0 s.1
  one_link a b (expired {k = i} {c = c} e f n out) (early {k = j} {c = d} e' f' n' out') = absurd (not_both c d (same_revived i j c d e e' f f' n n').1 out out')
  one_link a b (early {k = i} {c = c} e f n out) (expired {k = j} {c = d} e' f' n' out') = absurd (not_both d c (same_revived j i d c e' e f' f n' n).1 out' out)
  one_link a b (missing {k = i} {n = m} e f none l) (missing {k = j} {n = n} e' f' none' l') =
      let P : Grant → Type 0 = λ (g : Grant). Unit {0} in
      let place : i ≡ j = same_place list right P i j e e' f f' in
      let entry : e ≡ e' = same_entry list right P i j e e' f f' in
      ap₂ Missing place (same_part (IsReached anchors (claims certs) subject) e.who m n l (subst (λ (g : Grant). Lacks (IsReached anchors (claims certs) subject) g.who n) (sym entry) l'))
