-- Names, and the certificates that they name.
use Rattle.std.proofs.Common.{◌≡◌, ℕ, zero, suc, rules, ◌<◌, Bool, true, false, List, [], ◌∷◌, ◌++◌, length, filter, map, Option, Some, None, IsSome, All, cond, refl, sym, ap, ap₂, ◌∙◌, subst}
use Rattle.std.specs.List.{slice_get, filter_map, cons_option}
use Rattle.std.proofs.lemmas.List.Elements.{All-head, All-tail, All-nil, All-cons}
use Rattle.stmt_codec.specs.Certificates.{Certificate}
use Rattle.shard_core.specs.declared.held.name.Name.{Name}
use Rattle.shard_core.specs.declared.held.name.Name.TheVariants.{Common, Brought}
use Rattle.shard_core.specs.declared.held.removal.Removal.{Removal}
use Rattle.agent_core.specs.State.{Plan}
use Rattle.agent_core.specs.Journals.{Entry}
use Rattle.shard_core.specs.Kept.{stays, stays_if_named}
use Rattle.shard_core.specs.Names.{book, named, certs_named, AreNames, brought_by}
use Rattle.agent_core.proofs.AtPlaces.{is_there}

-- ---- a filter of names is a filter of what they name

filter_pass : (f : Name → Option Certificate) (r : Removal) (n : Name) (c : Certificate) (left : List Name) (certs : List Certificate) → f n ≡ Some c → filter_map f left ≡ filter (stays r) certs →
    (b : Bool) → filter_map f (cond b (n ∷ left) left) ≡ cond b (c ∷ filter (stays r) certs) (filter (stays r) certs)
filter_pass f r n c left certs e rest true = ap₂ (λ (o : Option Certificate) (cs : List Certificate). cons_option o cs) e rest
filter_pass f r n c left certs e rest false = rest

filter_one : (f : Name → Option Certificate) (r : Removal) (n : Name) (ns : List Name) (o : Option Certificate) → f n ≡ o →
    filter_map f (filter (λ n. stays_if_named r (f n)) ns) ≡ filter (stays r) (filter_map f ns) →
    filter_map f (filter (λ n. stays_if_named r (f n)) (n ∷ ns)) ≡ filter (stays r) (filter_map f (n ∷ ns))
filter_one f r n ns o e rest =
    ap (λ (x : Option Certificate). filter_map f (cond (stays_if_named r x) (n ∷ left) left)) e ∙ by_case o e ∙ sym (ap (λ (x : Option Certificate). filter (stays r) (cons_option x (filter_map f ns))) e)
  where
    left : List Name
    left = filter (λ n. stays_if_named r (f n)) ns

    by_case : (o : Option Certificate) → f n ≡ o → filter_map f (cond (stays_if_named r o) (n ∷ left) left) ≡ filter (stays r) (cons_option o (filter_map f ns))
    by_case None e = rest
    by_case (Some c) e = filter_pass f r n c left (filter_map f ns) e rest (stays r c)

pub filter_named : (f : Name → Option Certificate) (r : Removal) (ns : List Name) → filter_map f (filter (λ n. stays_if_named r (f n)) ns) ≡ filter (stays r) (filter_map f ns)
filter_named f r [] = refl
filter_named f r (n ∷ ns) = filter_one f r n ns (f n) refl (filter_named f r ns)

-- ---- a longer journal names no less

pub record Extends (f g : Name → Option Certificate) : Type 0 where
  pub same : (n : Name) (c : Certificate) → f n ≡ Some c → g n ≡ Some c

some_more : (f g : Name → Option Certificate) → Extends f g → (n : Name) (o : Option Certificate) → f n ≡ o → IsSome o → IsSome (g n) × (g n ≡ f n)
some_more f g ext n None e some = absurd cc
some_more f g ext n (Some c) e some = let same : g n ≡ Some c = ext.same n c e in (rw same (search (rules)), same ∙ sym e)

pub names_more : (f g : Name → Option Certificate) → Extends f g → (ns : List Name) → All (λ n. IsSome (f n)) ns → All (λ n. IsSome (g n)) ns
names_more f g ext [] all = All-nil (λ n. IsSome (g n))
names_more f g ext (n ∷ ns) all =
    All-cons (λ n. IsSome (g n)) n ns (some_more f g ext n (f n) refl (All-head (λ n. IsSome (f n)) n ns all)).0
    (names_more f g ext ns (All-tail (λ n. IsSome (f n)) n ns all))

pub named_more : (f g : Name → Option Certificate) → Extends f g → (ns : List Name) → All (λ n. IsSome (f n)) ns → filter_map g ns ≡ filter_map f ns
named_more f g ext [] all = refl
named_more f g ext (n ∷ ns) all =
    rw (some_more f g ext n (f n) refl (All-head (λ n. IsSome (f n)) n ns all)).1
    (rw (named_more f g ext ns (All-tail (λ n. IsSome (f n)) n ns all)) refl)

slice_get-front : {X : Type 0} (xs ys : List X) (i : ℕ) (x : X) → slice_get xs i ≡ Some x → slice_get (xs ++ ys) i ≡ Some x
slice_get-front [] ys i x e = absurd cc
slice_get-front (z ∷ xs) ys zero x e = e
slice_get-front (z ∷ xs) ys (suc i) x e = slice_get-front xs ys i x e

brought_more : (plan : Plan) (journal more : List Entry) (i place : ℕ) (c : Certificate) (o : Option Entry) → slice_get journal i ≡ o → named (book plan journal) (Brought i place) ≡ Some c → named (book plan (journal ++ more)) (Brought i place) ≡ Some c
brought_more plan journal more i place c None e h = absurd (let no : None ≡ Some c = rw e at h in cc)
brought_more plan journal more i place c (Some x) e h = rw (slice_get-front journal more i x e) (rw e at h)

pub journal_names_more : (plan : Plan) (journal more : List Entry) → Extends (named (book plan journal)) (named (book plan (journal ++ more)))
journal_names_more plan journal more = record { same = same }
  where
    same : (n : Name) (c : Certificate) → named (book plan journal) n ≡ Some c → named (book plan (journal ++ more)) n ≡ Some c
    same (Common place) c e = e
    same (Brought i place) c e = brought_more plan journal more i place c (slice_get journal i) refl e

-- ---- what the last entry brought

slice_get-end : {X : Type 0} (xs : List X) (x : X) → slice_get (xs ++ x ∷ []) (length xs) ≡ Some x
slice_get-end [] x = refl
slice_get-end (z ∷ xs) x = slice_get-end xs x

named_last : (plan : Plan) (journal : List Entry) (e : Entry) (place : ℕ) → named (book plan (journal ++ e ∷ [])) (Brought (length journal) place) ≡ slice_get (brought_by e.event) place
named_last plan journal e place = rw (slice_get-end journal e) refl

pub certs_brought : (plan : Plan) (journal : List Entry) (e : Entry) (places : List ℕ) →
    certs_named (book plan (journal ++ e ∷ [])) (map (λ p. Brought (length journal) p) places) ≡ filter_map (slice_get (brought_by e.event)) places
certs_brought plan journal e [] = refl
certs_brought plan journal e (p ∷ ps) = rw (named_last plan journal e p) (rw (certs_brought plan journal e ps) refl)

pub are_brought : (plan : Plan) (journal : List Entry) (e : Entry) (places : List ℕ) → All (λ p. p < length (brought_by e.event)) places →
    AreNames (book plan (journal ++ e ∷ [])) (map (λ p. Brought (length journal) p) places)
are_brought plan journal e [] all = All-nil (λ n. IsSome (named (book plan (journal ++ e ∷ [])) n))
are_brought plan journal e (p ∷ ps) all =
    All-cons (λ n. IsSome (named (book plan (journal ++ e ∷ [])) n)) (Brought (length journal) p) (map (λ p. Brought (length journal) p) ps)
    (subst IsSome (sym (named_last plan journal e p)) (is_there (brought_by e.event) p (All-head (λ p. p < length (brought_by e.event)) p ps all)))
    (are_brought plan journal e ps (All-tail (λ p. p < length (brought_by e.event)) p ps all))
