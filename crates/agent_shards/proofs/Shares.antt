-- The shares of passes, place by place: what is divided adds up again.
use Rattle.std.proofs.Common.{◌≡◌, ℕ, ◌+◌, List, [], ◌∷◌, refl, ap, ◌∙◌}
use Rattle.std.proofs.lemmas.List.Elements.{All-cons, All-head, All-nil, All-tail}
use Rattle.turn_cell.specs.declared.shares.TheConstants.{ALL_SHARES}
use Rattle.turn_cell.specs.Known.{Cell, Known}
use Rattle.agent_shards.specs.Cells.{AreJoined, AreSplit, HaveAll, shares_of}

-- the sums of two lists, place by place
abbrev pub sums : List ℕ → List ℕ → List ℕ
sums [] ys = []
sums (x ∷ xs) [] = []
sums (x ∷ xs) (y ∷ ys) = (x + y) ∷ sums xs ys

pub split_sums : {F E : Type 0} (shares : ℕ) (cells : List (Cell F E)) (before kept given : List (Known F E)) → AreSplit shares cells before kept given → sums (shares_of kept) (shares_of given) ≡ shares_of before
split_sums shares [] [] [] [] split = refl
split_sums shares (c ∷ cs) (b ∷ bs) (k ∷ ks) (g ∷ gs) split =
    let one : k.shares + g.shares ≡ b.shares = ap (λ n. k.shares + n) split.0.gives ∙ split.0.shared in
    λ i. one i ∷ split_sums shares cs bs ks gs split.1 i
split_sums shares _ _ _ _ split = absurd split

pub join_sums : {F E : Type 0} (allows : F → List E → E → Type 0) (cells : List (Cell F E)) (first both second : List (Known F E)) → AreJoined allows cells first both second → shares_of both ≡ sums (shares_of first) (shares_of second)
join_sums allows [] [] [] [] joined = refl
join_sums allows (c ∷ cs) (a ∷ firsts) (b ∷ bs) (s ∷ ss) joined = λ i. joined.0.shares i ∷ join_sums allows cs firsts bs ss joined.1 i
join_sums allows _ _ _ _ joined = absurd joined

pub all_by_shares : {F E : Type 0} (xs ys : List (Known F E)) → shares_of xs ≡ shares_of ys → HaveAll ys → HaveAll xs
all_by_shares {F} {E} [] ys same all = All-nil (λ (p : Known F E). p.shares ≡ ALL_SHARES)
all_by_shares (x ∷ xs) [] same all = absurd cc
all_by_shares {F} {E} (x ∷ xs) (y ∷ ys) same all =
    let here : x.shares ≡ y.shares = cc in
    let rest : shares_of xs ≡ shares_of ys = cc in
    All-cons (λ (p : Known F E). p.shares ≡ ALL_SHARES) x xs (here ∙ All-head (λ (p : Known F E). p.shares ≡ ALL_SHARES) y ys all)
    (all_by_shares xs ys rest (All-tail (λ (p : Known F E). p.shares ≡ ALL_SHARES) y ys all))

-- passes that were divided and joined again have all shares, where they had them before and each seat kept its own
pub all_back : {F E : Type 0} (allows : F → List E → E → Type 0) (shares : ℕ) (cells : List (Cell F E)) (before kept given kept_later given_later both : List (Known F E)) → HaveAll before → AreSplit shares cells before kept given →
    shares_of kept_later ≡ shares_of kept → shares_of given_later ≡ shares_of given → AreJoined allows cells kept_later both given_later → HaveAll both
all_back allows shares cells before kept given kept_later given_later both all split mine yours joined =
    all_by_shares both before
    (join_sums allows cells kept_later both given_later joined
    ∙ ((λ i. sums (mine i) (yours i)) ∙ split_sums shares cells before kept given split))
    all
