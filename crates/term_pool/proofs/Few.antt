-- How many principals a table takes in.
use Rattle.std.proofs.Common.{◌≡◌, ◌≢◌, ℕ, zero, suc, ◌+◌, ◌<◌, ◌≤◌, Bool, true, false, not, cond, List, [], ◌∷◌, ◌++◌, length, get_or, refl, sym, ap, subst, arith, All, Contains}
use Rattle.std.specs.Prelude.{filter}
use Rattle.std.proofs.lemmas.List.{length-append}
use Rattle.std.proofs.lemmas.List.Elements.{All-nil, All-cons, All-append, All-weaker, All-filter, All-contains, Contains-append_left, Contains-append_right}
use Rattle.std.proofs.lemmas.List.Sums.{length-filter, count_by-le-length}
use Rattle.std.proofs.lemmas.Bool.{false_from_ne_true}
use Rattle.prin_term.specs.Principal.{Principal, Key, Name, And, Quoting, InRole, For, subterms, node_count}
use Rattle.stmt_codec.specs.Certificates.{Certificate, speaker_of, IsWithinLimits, distinct_subterms}
use Rattle.stmt_codec.proofs.Members.{here, there, kept, members_same}
use Rattle.stmt_codec.specs.Distinct.{same_principal, first_of_each}
use Rattle.taos_calculus.specs.Canonical.{post_order}
use Rattle.stmt_codec.specs.Distinct.{met}
use Rattle.stmt_codec.proofs.Same.{same_principal-true, same_principal-itself}
use Rattle.stmt_codec.proofs.Firsts.{is_new, met-is}
use Rattle.stmt_codec.proofs.Counts.{Apart, Apart-filter, Apart-first_of_each}

-- those that are not p
abbrev without : Principal → List Principal → List Principal
without p ys = filter (λ q. not (same_principal q p)) ys

still_there : (p q : Principal) (ys : List Principal) → Contains ys q → q ≢ p → Contains (without p ys) q
still_there p q ys c ne =
    All-contains (λ x. not (same_principal x p) ≡ true → Contains (without p ys) x) ys q (kept (λ x. not (same_principal x p)) ys) c
    (ap not (false_from_ne_true (same_principal q p) (λ t. absurd (ne (same_principal-true q p t)))))

shorter : (p : Principal) (ys : List Principal) → length (without p ys) ≤ length ys
shorter p ys = omega (arith, length-filter (λ q. not (same_principal q p)) ys, count_by-le-length (λ q. not (same_principal q p)) ys)

at_most : (b : Bool) (x : Principal) (xs : List Principal) → length (cond b (x ∷ xs) xs) ≤ length xs + 1
at_most true x xs = omega arith
at_most false x xs = omega arith

less : (p : Principal) (ys : List Principal) (k : ℕ) → k < length ys → get_or ys k p ≡ p → length (without p ys) + 1 ≤ length ys
less p [] k h e = absurd (omega arith)
less p (y ∷ ys) zero h e =
    let same : not (same_principal y p) ≡ false = ap not (subst (λ (x : Principal). same_principal x p ≡ true) (sym e) (same_principal-itself p)) in
    let gone : without p (y ∷ ys) ≡ without p ys = rw same refl in
    omega (arith, ap length gone, shorter p ys)
less p (y ∷ ys) (suc k) h e = omega (arith, less p ys k (omega arith) e, at_most (not (same_principal y p)) y (without p ys))

pub no_more : (xs ys : List Principal) → Apart xs → All (Contains ys) xs → length xs ≤ length ys
no_more [] ys a h = omega arith
no_more (x ∷ xs) ys a h =
    let c : Contains ys x = h 0 x (omega arith) in
    let rest : length xs ≤ length (without x ys)
    = no_more xs (without x ys) a.1 (λ i d b. still_there x (get_or xs i d) ys (h (suc i) d (omega arith)) (a.0 i d b)) in
    omega (arith, rest, less x ys c.0 c.1 c.2)

-- what is taken in of ps stands in ps, each once
first_in : (ps : List Principal) → All (Contains ps) (first_of_each ps)
first_in [] = All-nil (Contains [])
first_in (p ∷ ps) =
    All-cons (Contains (p ∷ ps)) p (without p (first_of_each ps)) (here p ps)
    (All-filter (λ q. not (same_principal q p)) (Contains (p ∷ ps)) (first_of_each ps)
    (All-weaker (Contains ps) (Contains (p ∷ ps)) (λ q. there p ps q) (first_of_each ps) (first_in ps)))

pub met_few : (t ps ys : List Principal) → All (Contains ys) ps → length (met t ps) ≤ length t + length ys
met_few t ps ys all =
    let new : List Principal = filter (is_new t) (first_of_each ps) in
    let apart : Apart new = Apart-filter (is_new t) (first_of_each ps) (Apart-first_of_each ps) in
    let inside : All (Contains ys) new
    = All-filter (is_new t) (Contains ys) (first_of_each ps) (λ i d h. All-contains (Contains ys) ps (get_or (first_of_each ps) i d) all (first_in ps i d h)) in
    omega (arith, no_more new ys apart inside, ap length (met-is t ps), length-append t new)

post_pair : (x a b : Principal) → All (Contains (subterms a)) (post_order a) → All (Contains (subterms b)) (post_order b) →
    All (Contains (x ∷ (subterms a ++ subterms b))) (post_order a ++ post_order b ++ x ∷ [])
post_pair x a b h k =
    let all : List Principal = x ∷ (subterms a ++ subterms b) in
    All-append (Contains all) (post_order a ++ post_order b) (x ∷ [])
    (All-append (Contains all) (post_order a) (post_order b)
    (All-weaker (Contains (subterms a)) (Contains all) (λ q c. there x (subterms a ++ subterms b) q (Contains-append_left (subterms a) (subterms b) q c)) (post_order a) h)
    (All-weaker (Contains (subterms b)) (Contains all) (λ q c. there x (subterms a ++ subterms b) q (Contains-append_right (subterms a) (subterms b) q c)) (post_order b) k))
    (All-cons (Contains all) x [] (here x (subterms a ++ subterms b)) (All-nil (Contains all)))

-- the parts of a principal in either order
pub post_in : (p : Principal) → All (Contains (subterms p)) (post_order p)
post_in (Key k) = All-cons (Contains (subterms (Key k))) (Key k) [] (here (Key k) []) (All-nil (Contains (subterms (Key k))))
post_in (Name n) = All-cons (Contains (subterms (Name n))) (Name n) [] (here (Name n) []) (All-nil (Contains (subterms (Name n))))
post_in (And a b) = post_pair (And a b) a b (post_in a) (post_in b)
post_in (Quoting a b) = post_pair (Quoting a b) a b (post_in a) (post_in b)
post_in (For a b) = post_pair (For a b) a b (post_in a) (post_in b)
post_in (InRole a r) =
    All-append (Contains (subterms (InRole a r))) (post_order a) (InRole a r ∷ [])
    (All-weaker (Contains (subterms a)) (Contains (InRole a r ∷ subterms a)) (λ q. there (InRole a r) (subterms a) q) (post_order a) (post_in a))
    (All-cons (Contains (subterms (InRole a r))) (InRole a r) [] (here (InRole a r) (subterms a)) (All-nil (Contains (subterms (InRole a r)))))

pub length-subterms : (p : Principal) → length (subterms p) ≡ node_count p
length-subterms (Key k) = refl
length-subterms (Name n) = refl
length-subterms (And a b) = omega (arith, length-append (subterms a) (subterms b), length-subterms a, length-subterms b)
length-subterms (Quoting a b) = omega (arith, length-append (subterms a) (subterms b), length-subterms a, length-subterms b)
length-subterms (For a b) = omega (arith, length-append (subterms a) (subterms b), length-subterms a, length-subterms b)
length-subterms (InRole a r) = omega (arith, length-subterms a)

-- a term adds its nodes at most
pub term_few : (t : List Principal) (p : Principal) → length (met t (post_order p)) ≤ length t + node_count p
term_few t p = omega (arith, met_few t (post_order p) (subterms p) (post_in p), length-subterms p)

-- a certificate adds few
pub cert_few : (t : List Principal) (c : Certificate) → IsWithinLimits c →
    length (met t (post_order (speaker_of c) ++ post_order c.left ++ post_order c.right)) ≤ length t + 16
cert_few t c limits =
    let sp : List Principal = subterms (speaker_of c) in
    let sl : List Principal = subterms c.left in
    let sr : List Principal = subterms c.right in
    let all : List Principal = sp ++ (sl ++ sr) in
    let inside : All (Contains all) (post_order (speaker_of c) ++ post_order c.left ++ post_order c.right)
    = All-append (Contains all) (post_order (speaker_of c) ++ post_order c.left) (post_order c.right)
    (All-append (Contains all) (post_order (speaker_of c)) (post_order c.left)
    (All-weaker (Contains sp) (Contains all) (λ q h. Contains-append_left sp (sl ++ sr) q h) (post_order (speaker_of c)) (post_in (speaker_of c)))
    (All-weaker (Contains sl) (Contains all) (λ q h. Contains-append_right sp (sl ++ sr) q (Contains-append_left sl sr q h)) (post_order c.left) (post_in c.left)))
    (All-weaker (Contains sr) (Contains all) (λ q h. Contains-append_right sp (sl ++ sr) q (Contains-append_right sl sr q h)) (post_order c.right) (post_in c.right)) in
    let few : All (Contains (distinct_subterms c)) (post_order (speaker_of c) ++ post_order c.left ++ post_order c.right)
    = All-weaker (Contains all) (Contains (distinct_subterms c)) (λ q h. (members_same all q).1 h) (post_order (speaker_of c) ++ post_order c.left ++ post_order c.right) inside in
    omega (arith, met_few t (post_order (speaker_of c) ++ post_order c.left ++ post_order c.right) (distinct_subterms c) few, limits.few_subterms)
