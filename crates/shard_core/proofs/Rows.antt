-- Rows, and how the certificates of their names are fewer.
use Rattle.std.proofs.Common.{◌≡◌, ℕ, ◌+◌, ◌-◌, ◌≤◌, Bool, true, false, cond, not, List, [], ◌∷◌, length, filter, Option, IsSome, All, refl, sym, ap, ◌∙◌, arith}
use Rattle.std.specs.List.{filter_map}
use Rattle.std.proofs.lemmas.Bool.{ne_eqb, eq-eqb}
use Rattle.std.proofs.lemmas.List.Elements.{All-same, All-filter}
use Rattle.std.proofs.lemmas.List.Filters.{length-filter_both}
use Rattle.stmt_codec.specs.Certificates.{Certificate}
use Rattle.shard_core.specs.declared.held.name.Name.{Name}
use Rattle.shard_core.specs.declared.held.removal.Removal.{Removal}
use Rattle.shard_core.specs.declared.held.removal.Removal.TheVariants.{Nothing, Ended}
use Rattle.shard_core.specs.declared.shard.store.Row.{Row}
use Rattle.agent_core.specs.State.{Plan}
use Rattle.agent_core.specs.Journals.{Entry}
use Rattle.shard_core.specs.Kept.{stays, stays_if_named, row_certs, now_at}
use Rattle.shard_core.specs.Names.{book, certs_named}
use Rattle.shard_core.proofs.NamesLeft.{filter_named}
use Rattle.agent_core.proofs.AtPlaces.{count_named}

module _ (f : Name → Option Certificate) (r : Removal) (names left : List Name) (e : left ≡ filter (λ n. stays_if_named r (f n)) names) where
  pub left_named : filter_map f left ≡ filter (stays r) (filter_map f names)
  left_named = ap (filter_map f) e ∙ filter_named f r names

  pub left_names : All (λ n. IsSome (f n)) names → All (λ n. IsSome (f n)) left
  left_names all = All-same (λ n. IsSome (f n)) left (filter (λ n. stays_if_named r (f n)) names) e (All-filter (λ n. stays_if_named r (f n)) (λ n. IsSome (f n)) names all)

  -- as many names stay as certificates
  pub left_counted : All (λ n. IsSome (f n)) names → length left ≡ length (filter (stays r) (filter_map f names))
  left_counted all = sym (count_named f left (left_names all)) ∙ ap (λ (cs : List Certificate). length cs) left_named

  pub left_short : length left ≤ length names
  left_short = omega (arith, ap length e, length-filter_both (λ n. stays_if_named r (f n)) (λ n. not (stays_if_named r (f n))) (λ n. refl) names)

  -- the names that are fewer are as many as the certificates that are fewer
  pub left_count : All (λ n. IsSome (f n)) names → (length names - length left) + length (filter (stays r) (filter_map f names)) ≡ length (filter_map f names)
  left_count all = omega (arith, left_short, count_named f names all, count_named f left (left_names all), ap length left_named)

-- where as many stay as there are, all do
pub all_stay : {X : Type 0} (p : X → Bool) (xs : List X) → length xs ≤ length (filter p xs) → filter p xs ≡ xs
all_stay p [] le = refl
all_stay p (x ∷ xs) le = by_case (all_stay p xs) (p x) refl
  where
    short : length (filter p xs) ≤ length xs
    short = omega (arith, length-filter_both p (λ y. not (p y)) (λ y. refl) xs)

    by_case : (length xs ≤ length (filter p xs) → filter p xs ≡ xs) → (b : Bool) → p x ≡ b → filter p (x ∷ xs) ≡ x ∷ xs
    by_case rest true e = ap (λ c. cond c (x ∷ filter p xs) (filter p xs)) e ∙ ap (λ ys. x ∷ ys) (rest (omega (arith, le, ap (λ c. length (cond c (x ∷ filter p xs) (filter p xs))) e)))
    by_case rest false e = absurd (omega (arith, le, short, ap (λ c. length (cond c (x ∷ filter p xs) (filter p xs))) e))

pub nothing_goes : (certs : List Certificate) → filter (stays Nothing) certs ≡ certs
nothing_goes [] = refl
nothing_goes (c ∷ cs) = ap (λ zs. c ∷ zs) (nothing_goes cs)

pub row_fresh : (plan : Plan) (journal : List Entry) (clock swept : ℕ) (row : Row) → row.swept ≡ swept → row_certs (now_at (book plan journal) clock swept) row ≡ certs_named (book plan journal) row.own.items
row_fresh plan journal clock swept row e =
    ap (λ b. cond b (certs_named (book plan journal) row.own.items) (filter (stays (Ended plan.keep clock)) (certs_named (book plan journal) row.own.items))) (eq-eqb row.swept swept e)

pub row_stale : (plan : Plan) (journal : List Entry) (clock swept : ℕ) (row : Row) → (row.swept ≡ swept → ⊥) → row_certs (now_at (book plan journal) clock swept) row ≡ filter (stays (Ended plan.keep clock)) (certs_named (book plan journal) row.own.items)
row_stale plan journal clock swept row ne =
    ap (λ b. cond b (certs_named (book plan journal) row.own.items) (filter (stays (Ended plan.keep clock)) (certs_named (book plan journal) row.own.items))) (ne_eqb row.swept swept ne)
