-- Lists that a loop goes through in step.
use Rattle.std.proofs.Common.{◌≡◌, ℕ, zero, suc, Bool, true, false, if◌then◌else◌, ◌+◌, ◌<◌, ◌≤◌, List, [], ◌∷◌, ◌++◌, length, map, get_or, take, drop, set, Some, refl, sym, ap, ◌∙◌, subst, arith, append_assoc, append-nil, add-one, drop-cons, take_all}
use Rattle.std.specs.Prelude.{All}
use Rattle.std.specs.List.{AllZip, insert, remove, slice_get}
use Rattle.std.proofs.lemmas.Option.{same_Some}
use Rattle.std.proofs.lemmas.List.{take_more, drop_all, map_more, map_push}
use Rattle.std.proofs.lemmas.List.Elements.{All-head, All-tail}
use Rattle.agent_shards.specs.Each.{Each3, Each4}

-- what is left after one item more
pub left_next : {X : Type 0} (ys : List X) (x : X) (rest more whole : List X) → rest ≡ x ∷ more → ys ++ rest ≡ whole → (ys ++ x ∷ []) ++ more ≡ whole
left_next ys x rest more whole is h = append_assoc ys (x ∷ []) more ∙ (ap (λ l. ys ++ l) (sym is) ∙ h)

-- what holds place by place holds at each place
pub zip_at : {A B : Type 0} (R : A → B → Type 0) (xs : List A) (ys : List B) (i : ℕ) (x : A) (y : B) → AllZip R xs ys → slice_get xs i ≡ Some x → slice_get ys i ≡ Some y → R x y
zip_at R [] ys i x y h p q = absurd cc
zip_at R (a ∷ xs) [] i x y h p q = absurd h
zip_at {A} {B} R (a ∷ xs) (b ∷ ys) zero x y h p q = subst (λ (l : A × B). R l.0 l.1) (λ k. (same_Some a x p k, same_Some b y q k)) h.0
zip_at R (a ∷ xs) (b ∷ ys) (suc i) x y h p q = zip_at R xs ys i x y h.1 p q

-- where there is one of the first there is one of the second
pub zip_there : {A B : Type 0} (R : A → B → Type 0) (xs : List A) (ys : List B) (i : ℕ) (x : A) → AllZip R xs ys → slice_get xs i ≡ Some x → (y : B) × (slice_get ys i ≡ Some y) × R x y
zip_there R [] ys i x h p = absurd cc
zip_there R (a ∷ xs) [] i x h p = absurd h
zip_there {A} R (a ∷ xs) (b ∷ ys) zero x h p = (b, refl, subst (λ (z : A). R z b) (same_Some a x p) h.0)
zip_there R (a ∷ xs) (b ∷ ys) (suc i) x h p = zip_there R xs ys i x h.1 p

-- and stays so where one is replaced by another of which it holds
pub zip_set : {A B : Type 0} (R : A → B → Type 0) (xs : List A) (ys : List B) (i : ℕ) (x : A) (y : B) → AllZip R xs ys → slice_get xs i ≡ Some x → R x y → AllZip R xs (set ys i y)
zip_set R [] [] i x y h p k = tt
zip_set R [] (b ∷ ys) i x y h p k = absurd h
zip_set R (a ∷ xs) [] i x y h p k = absurd h
zip_set {A} R (a ∷ xs) (b ∷ ys) zero x y h p k = (subst (λ (z : A). R z y) (sym (same_Some a x p)) k, h.1)
zip_set R (a ∷ xs) (b ∷ ys) (suc i) x y h p k = (h.0, zip_set R xs ys i x y h.1 p k)

-- what follows from what holds place by place
pub zip_map : {A B : Type 0} (R Q : A → B → Type 0) → ((x : A) (y : B) → R x y → Q x y) → (xs : List A) (ys : List B) → AllZip R xs ys → AllZip Q xs ys
zip_map R Q go [] [] h = tt
zip_map R Q go [] (y ∷ ys) h = absurd h
zip_map R Q go (x ∷ xs) [] h = absurd h
zip_map R Q go (x ∷ xs) (y ∷ ys) h = (go x y h.0, zip_map R Q go xs ys h.1)

pub zip_long : {A B : Type 0} (R : A → B → Type 0) (xs : List A) (ys : List B) → AllZip R xs ys → length ys ≡ length xs
zip_long R [] [] h = refl
zip_long R [] (y ∷ ys) h = absurd h
zip_long R (x ∷ xs) [] h = absurd h
zip_long R (x ∷ xs) (y ∷ ys) h = ap suc (zip_long R xs ys h.1)

-- one that is taken out and put back
pub put_again : {X : Type 0} (xs : List X) (i : ℕ) (y : X) → i < length xs → insert (remove xs i) i y ≡ set xs i y
put_again [] i y lt = absurd (omega (arith, lt))
put_again (x ∷ xs) zero y lt = refl
put_again (x ∷ xs) (suc i) y lt = ap (λ l. x ∷ l) (put_again xs i y (omega (arith, lt)))

pub set_same : {X : Type 0} (xs : List X) (i : ℕ) (x : X) → i < length xs → slice_get (set xs i x) i ≡ Some x
set_same [] i x lt = absurd (omega (arith, lt))
set_same (y ∷ ys) zero x lt = refl
set_same (y ∷ ys) (suc i) x lt = set_same ys i x (omega (arith, lt))

pub set_other : {X : Type 0} (xs : List X) (i : ℕ) (x : X) (k : ℕ) → (k ≡ i → ⊥) → slice_get (set xs i x) k ≡ slice_get xs k
set_other [] i x k ne = refl
set_other (y ∷ ys) zero x zero ne = absurd (ne refl)
set_other (y ∷ ys) zero x (suc k) ne = refl
set_other (y ∷ ys) (suc i) x zero ne = refl
set_other (y ∷ ys) (suc i) x (suc k) ne = set_other ys i x k (λ e. ne (ap suc e))

-- where one item is replaced by another of the same image
pub map_kept : {X Y : Type 0} (f : X → Y) (xs : List X) (i : ℕ) (x y : X) → slice_get xs i ≡ Some x → f y ≡ f x → map f (set xs i y) ≡ map f xs
map_kept f [] i x y at same = refl
map_kept f (a ∷ xs) zero x y at same = ap (λ z. z ∷ map f xs) (same ∙ ap f (sym (same_Some a x at)))
map_kept f (a ∷ xs) (suc i) x y at same = ap (λ l. f a ∷ l) (map_kept f xs i x y at same)

-- one of two, where the test is true
pub chosen : {X : Type 0} (b : Bool) (x y : X) → b ≡ true → (if b then x else y) ≡ x
chosen true x y e = refl
chosen false x y e = absurd cc

-- one more of what a loop makes of each item
pub maps_more : {X Y Z : Type 0} (f : X → Z) (g : Y → Z) (xs : List X) (i : ℕ) (x : X) (ys ys' : List Y) (y : Y) → i < length xs → x ≡ get_or xs i x → map g ys ≡ map f (take i xs) → ys' ≡ ys ++ y ∷ [] → g y ≡ f x → map g ys' ≡ map f (take (i + 1) xs)
maps_more f g xs i x ys ys' y lt is h pushed same =
    ap (map g) pushed
    ∙ (map_push g ys y ∙ (ap (λ l. l ++ g y ∷ []) h ∙ (ap (λ z. map f (take i xs) ++ z ∷ []) (same ∙ ap f is) ∙ sym (map_more f xs i x lt))))

-- what holds of two lists and of each item of the second
pub zip_all : {A B : Type 0} (Q : A → B → Type 0) (P : B → Type 0) (xs : List A) (ys : List B) → AllZip Q xs ys → All P ys → AllZip (λ x y. Q x y × P y) xs ys
zip_all Q P [] [] h all = tt
zip_all Q P [] (y ∷ ys) h all = absurd h
zip_all Q P (x ∷ xs) [] h all = absurd h
zip_all Q P (x ∷ xs) (y ∷ ys) h all = ((h.0, All-head P y ys all), zip_all Q P xs ys h.1 (All-tail P y ys all))

module _ {A B C : Type 0} (R : A → B → C → Type 0) where
  each3_push : (xs : List A) (ys : List B) (zs : List C) (x : A) (y : B) (z : C) → Each3 R xs ys zs → R x y z → Each3 R (xs ++ x ∷ []) (ys ++ y ∷ []) (zs ++ z ∷ [])
  each3_push [] [] [] x y z h k = (k, tt)
  each3_push (a ∷ xs) (b ∷ ys) (c ∷ zs) x y z h k = (h.0, each3_push xs ys zs x y z h.1 k)
  each3_push _ _ _ x y z h k = absurd h

  -- one item more of each
  pub each3_next : (xs : List A) (ys ys' : List B) (zs zs' : List C) (x : A) (y : B) (z : C) → Each3 R xs ys zs → ys' ≡ ys ++ y ∷ [] → zs' ≡ zs ++ z ∷ [] → R x y z → Each3 R (xs ++ x ∷ []) ys' zs'
  each3_next xs ys ys' zs zs' x y z h p q k = subst (λ (l : List B × List C). Each3 R (xs ++ x ∷ []) l.0 l.1) (λ i. (sym p i, sym q i)) (each3_push xs ys zs x y z h k)

  -- what follows for the last two of three lists
  pub each3_zip : (Q : B → C → Type 0) → ((x : A) (y : B) (z : C) → R x y z → Q y z) → (xs : List A) (ys : List B) (zs : List C) → Each3 R xs ys zs → AllZip Q ys zs
  each3_zip Q go [] [] [] h = tt
  each3_zip Q go (x ∷ xs) (y ∷ ys) (z ∷ zs) h = (go x y z h.0, each3_zip Q go xs ys zs h.1)
  each3_zip Q go _ _ _ h = absurd h

  pub each3_long : (xs : List A) (ys : List B) (zs : List C) → Each3 R xs ys zs → length ys ≡ length xs
  each3_long [] [] [] h = refl
  each3_long (x ∷ xs) (y ∷ ys) (z ∷ zs) h = ap suc (each3_long xs ys zs h.1)
  each3_long _ _ _ h = absurd h

  -- where two functions agree place by place
  pub each3_map : {D : Type 0} (f : A → D) (g : B → D) → ((x : A) (y : B) (z : C) → R x y z → g y ≡ f x) → (xs : List A) (ys : List B) (zs : List C) → Each3 R xs ys zs → map g ys ≡ map f xs
  each3_map f g go [] [] [] h = refl
  each3_map f g go (x ∷ xs) (y ∷ ys) (z ∷ zs) h = λ i. go x y z h.0 i ∷ each3_map f g go xs ys zs h.1 i
  each3_map f g go _ _ _ h = absurd h

module _ {A B C D : Type 0} (R : A → B → C → D → Type 0) where
  each4_push : (xs : List A) (ys : List B) (zs : List C) (ws : List D) (x : A) (y : B) (z : C) (w : D) → Each4 R xs ys zs ws → R x y z w → Each4 R (xs ++ x ∷ []) (ys ++ y ∷ []) (zs ++ z ∷ []) (ws ++ w ∷ [])
  each4_push [] [] [] [] x y z w h k = (k, tt)
  each4_push (a ∷ xs) (b ∷ ys) (c ∷ zs) (d ∷ ws) x y z w h k = (h.0, each4_push xs ys zs ws x y z w h.1 k)
  each4_push _ _ _ _ x y z w h k = absurd h

  -- what follows for the first and the third list
  pub each4_third : (Q : A → C → Type 0) → ((x : A) (y : B) (z : C) (w : D) → R x y z w → Q x z) → (xs : List A) (ys : List B) (zs : List C) (ws : List D) → Each4 R xs ys zs ws → AllZip Q xs zs
  each4_third Q go [] [] [] [] h = tt
  each4_third Q go (x ∷ xs) (y ∷ ys) (z ∷ zs) (w ∷ ws) h = (go x y z w h.0, each4_third Q go xs ys zs ws h.1)
  each4_third Q go _ _ _ _ h = absurd h

  -- and for the first and the fourth
  pub each4_fourth : (Q : A → D → Type 0) → ((x : A) (y : B) (z : C) (w : D) → R x y z w → Q x w) → (xs : List A) (ys : List B) (zs : List C) (ws : List D) → Each4 R xs ys zs ws → AllZip Q xs ws
  each4_fourth Q go [] [] [] [] h = tt
  each4_fourth Q go (x ∷ xs) (y ∷ ys) (z ∷ zs) (w ∷ ws) h = (go x y z w h.0, each4_fourth Q go xs ys zs ws h.1)
  each4_fourth Q go _ _ _ _ h = absurd h

-- in step with no cells there is nothing
none_left : {C X : Type 0} (P : C → X → Type 0) (rest : List X) → AllZip P [] rest → rest ≡ []
none_left P [] h = refl
none_left P (x ∷ rest) h = absurd h

empty : {X : Type 0} (xs : List X) → length xs ≡ 0 → xs ≡ []
empty [] h = refl
empty (x ∷ xs) h = absurd (omega (arith, h))

-- ---- a list whose first items are taken out and come back at its end, in step with cells

pub record Turning {C X Y : Type 0} (P : C → X → Type 0) (R : C → X → X → Y → Type 0) (cells : List C) (i : ℕ) (initial now : List X) (others : List Y) : Type 0 where
  pub front : List X
  pub rest : List X
  pub done : List X
  pub began : front ++ rest ≡ initial
  pub goes : now ≡ rest ++ done
  pub left : AllZip P (drop i cells) rest
  pub turned : Each4 R (take i cells) front done others

-- the first of a list that goes on in step
first_of : {C X : Type 0} (P : C → X → Type 0) (cell : C) (cells : List C) (rest : List X) → AllZip P (cell ∷ cells) rest → (x : X) × (more : List X) × (rest ≡ x ∷ more) × P cell x × AllZip P cells more
first_of P cell cells [] h = absurd h
first_of P cell cells (x ∷ more) h = (x, more, refl, h.0, h.1)

-- the first of a list that is not empty, and what is left without it
pub taken_first : {X : Type 0} (x : X) (more done now : List X) (out : X) → now ≡ (x ∷ more) ++ done → out ≡ get_or now 0 out → out ≡ x
taken_first x more done now out goes is = is ∙ ap (λ l. get_or l 0 out) goes

pub left_first : {X : Type 0} (x : X) (more done now left : List X) → now ≡ (x ∷ more) ++ done → left ≡ remove now 0 → left ≡ more ++ done
left_first x more done now left goes is = is ∙ ap (λ l. remove l 0) goes

module _ {C X Y : Type 0} (P : C → X → Type 0) (R : C → X → X → Y → Type 0) (cells : List C) where
  pub turning_start : (initial : List X) → AllZip P cells initial → Turning P R cells 0 initial initial []
  turning_start initial all = record {
    front = [];
    rest = initial;
    done = [];
    began = refl;
    goes = sym (append-nil initial);
    left = all;
    turned = tt;
  }

  pub turning_end : (i : ℕ) (initial now : List X) (others : List Y) → length cells ≤ i → Turning P R cells i initial now others → Each4 R cells initial now others
  turning_end i initial now others all t =
      let none : t.rest ≡ [] = none_left P t.rest (subst (λ l. AllZip P l t.rest) (drop_all i cells all) t.left) in
      let began : t.front ≡ initial = sym (append-nil t.front) ∙ (ap (λ l. t.front ++ l) (sym none) ∙ t.began) in
      let goes : t.done ≡ now = ap (λ l. l ++ t.done) (sym none) ∙ sym t.goes in
      subst (λ (l : List C). Each4 R l initial now others) (take_all i cells all)
      (subst (λ (l : List X × List X). Each4 R (take i cells) l.0 l.1 others) (λ k. (began k, goes k)) t.turned)

  module _ (i : ℕ) (initial now : List X) (others : List Y) (t : Turning P R cells i initial now others) (cell : C) (inside : i < length cells) (is : cell ≡ get_or cells i cell) where
    next : (x : X) × (more : List X) × (t.rest ≡ x ∷ more) × P cell x × AllZip P (drop (suc i) cells) more
    next = first_of P cell (drop (suc i) cells) t.rest (subst (λ l. AllZip P l t.rest) (drop-cons cells i cell inside ∙ ap (λ c. c ∷ drop (suc i) cells) (sym is)) t.left)

    goes_on : now ≡ (next.0 ∷ next.1) ++ t.done
    goes_on = t.goes ∙ ap (λ l. l ++ t.done) next.2

    -- there is one more to be taken out
    pub turning_some : 0 < length now
    turning_some = let e : length now ≡ suc (length (next.1 ++ t.done)) = ap (λ (l : List X). length l) goes_on in omega arith

    module _ (out : X) (taken : out ≡ get_or now 0 out) where
      its : out ≡ next.0
      its = taken_first next.0 next.1 t.done now out goes_on taken

      -- it is the cell's
      pub turning_here : P cell out
      turning_here = subst (P cell) (sym its) next.3

      pub turning_next : (back : X) (other : Y) (left later : List X) (others' : List Y) → left ≡ remove now 0 → later ≡ left ++ back ∷ [] → others' ≡ others ++ other ∷ [] → R cell out back other → Turning P R cells (i + 1) initial later others'
      turning_next back other left later others' removed pushed more r = record {
        front = t.front ++ out ∷ [];
        rest = next.1;
        done = t.done ++ back ∷ [];
        began = append_assoc t.front (out ∷ []) next.1 ∙ (ap (λ l. t.front ++ l) (ap (λ x. x ∷ next.1) its ∙ sym next.2) ∙ t.began);
        goes = pushed ∙ (ap (λ l. l ++ back ∷ []) (left_first next.0 next.1 t.done now left goes_on removed) ∙ append_assoc next.1 t.done (back ∷ []));
        left = subst (λ n. AllZip P (drop n cells) next.1) (sym (add-one i)) next.4;
        turned = subst (λ (l : List C × List Y). Each4 R l.0 (t.front ++ out ∷ []) (t.done ++ back ∷ []) l.1)
            (λ k. ((ap (λ c. take i cells ++ c ∷ []) is ∙ sym (take_more cells i cell inside)) k, sym more k))
            (each4_push R (take i cells) t.front t.done others cell out back other t.turned r);
      }

-- ---- a list whose first items are taken out for good, in step with cells

pub record Leaving {C X : Type 0} (P : C → X → Type 0) (cells : List C) (i : ℕ) (initial now gone : List X) : Type 0 where
  pub began : gone ++ now ≡ initial
  pub left : AllZip P (drop i cells) now

module _ {C X : Type 0} (P : C → X → Type 0) (cells : List C) where
  pub leaving_end : (i : ℕ) (initial now gone : List X) → length cells ≤ i → Leaving P cells i initial now gone → gone ≡ initial
  leaving_end i initial now gone all s =
      let none : now ≡ [] = none_left P now (subst (λ l. AllZip P l now) (drop_all i cells all) s.left) in
      sym (append-nil gone) ∙ (ap (λ l. gone ++ l) (sym none) ∙ s.began)

  module _ (i : ℕ) (initial now gone : List X) (s : Leaving P cells i initial now gone) (cell : C) (inside : i < length cells) (is : cell ≡ get_or cells i cell) where
    following : (x : X) × (more : List X) × (now ≡ x ∷ more) × P cell x × AllZip P (drop (suc i) cells) more
    following = first_of P cell (drop (suc i) cells) now (subst (λ l. AllZip P l now) (drop-cons cells i cell inside ∙ ap (λ c. c ∷ drop (suc i) cells) (sym is)) s.left)

    whole : now ≡ (following.0 ∷ following.1) ++ []
    whole = following.2 ∙ sym (append-nil (following.0 ∷ following.1))

    pub leaving_some : 0 < length now
    leaving_some = let e : length now ≡ suc (length following.1) = ap (λ (l : List X). length l) following.2 in omega arith

    module _ (out : X) (taken : out ≡ get_or now 0 out) where
      it : out ≡ following.0
      it = taken_first following.0 following.1 [] now out whole taken

      pub leaving_here : P cell out
      leaving_here = subst (P cell) (sym it) following.3

      pub leaving_next : (later : List X) → later ≡ remove now 0 → Leaving P cells (i + 1) initial later (gone ++ out ∷ [])
      leaving_next later removed =
          let same : later ≡ following.1 = left_first following.0 following.1 [] now later whole removed ∙ append-nil following.1 in record {
            began = append_assoc gone (out ∷ []) later ∙ (ap (λ l. gone ++ l) (ap (λ l. out ∷ l) same ∙ (ap (λ x. x ∷ following.1) it ∙ sym following.2)) ∙ s.began);
            left = subst (λ (l : List X). AllZip P (drop (i + 1) cells) l) (sym same) (subst (λ n. AllZip P (drop n cells) following.1) (sym (add-one i)) following.4);
          }

-- ---- the same where the cells go too

pub record Closing {C X V : Type 0} (P : C → X → Type 0) (R : C → X → V → Type 0) (yielded cells whole : List C) (initial now : List X) (values : List V) : Type 0 where
  pub gone : List X
  pub began : gone ++ now ≡ initial
  pub cells_began : yielded ++ cells ≡ whole
  pub left : AllZip P cells now
  pub closed : Each3 R yielded gone values

module _ {C X V : Type 0} (P : C → X → Type 0) (R : C → X → V → Type 0) where
  pub closing_start : (cells whole : List C) (initial : List X) (values : List V) → cells ≡ whole → values ≡ [] → AllZip P whole initial → Closing P R [] cells whole initial initial values
  closing_start cells w initial values is none all = record {
    gone = [];
    began = refl;
    cells_began = is;
    left = subst (λ l. AllZip P l initial) (sym is) all;
    closed = subst (Each3 R [] []) (sym none) tt;
  }

  pub closing_end : (yielded cells whole : List C) (initial now : List X) (values : List V) → length cells ≡ 0 → Closing P R yielded cells whole initial now values → Each3 R whole initial values
  closing_end yielded cells all initial now values none_over s =
      let over : cells ≡ [] = empty cells none_over in
      let none : now ≡ [] = none_left P now (subst (λ l. AllZip P l now) over s.left) in
      let gone : s.gone ≡ initial = sym (append-nil s.gone) ∙ (ap (λ l. s.gone ++ l) (sym none) ∙ s.began) in
      let done : yielded ≡ all = sym (append-nil yielded) ∙ (ap (λ l. yielded ++ l) (sym over) ∙ s.cells_began) in
      subst (λ (l : List C × List X). Each3 R l.0 l.1 values) (λ k. (done k, gone k)) s.closed

  module _ (yielded cells whole : List C) (initial now : List X) (values : List V) (s : Closing P R yielded cells whole initial now values) (cell : C) (more : List C) (is : cells ≡ cell ∷ more) where
    one_more : (x : X) × (rest : List X) × (now ≡ x ∷ rest) × P cell x × AllZip P more rest
    one_more = first_of P cell more now (subst (λ l. AllZip P l now) is s.left)

    all_now : now ≡ (one_more.0 ∷ one_more.1) ++ []
    all_now = one_more.2 ∙ sym (append-nil (one_more.0 ∷ one_more.1))

    pub closing_some : 0 < length now
    closing_some = let e : length now ≡ suc (length one_more.1) = ap (λ (l : List X). length l) one_more.2 in omega arith

    module _ (out : X) (taken : out ≡ get_or now 0 out) where
      this : out ≡ one_more.0
      this = taken_first one_more.0 one_more.1 [] now out all_now taken

      pub closing_here : P cell out
      closing_here = subst (P cell) (sym this) one_more.3

      pub closing_next : (later : List X) (value : V) (values' : List V) → later ≡ remove now 0 → values' ≡ values ++ value ∷ [] → R cell out value → Closing P R (yielded ++ cell ∷ []) more whole initial later values'
      closing_next later value values' removed pushed r =
          let same : later ≡ one_more.1 = left_first one_more.0 one_more.1 [] now later all_now removed ∙ append-nil one_more.1 in record {
            gone = s.gone ++ out ∷ [];
            began = append_assoc s.gone (out ∷ []) later ∙ (ap (λ l. s.gone ++ l) (ap (λ l. out ∷ l) same ∙ (ap (λ x. x ∷ one_more.1) this ∙ sym one_more.2)) ∙ s.began);
            cells_began = left_next yielded cell cells more whole is s.cells_began;
            left = subst (λ (l : List X). AllZip P more l) (sym same) one_more.4;
            closed = each3_next R yielded s.gone (s.gone ++ out ∷ []) values values' cell out value s.closed refl pushed r;
          }
