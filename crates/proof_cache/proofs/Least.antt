-- The least end of a list with one more certificate.
use Rattle.std.proofs.Common.{◌≡◌, ℕ, ◌+◌, ◌<◌, min, List, [], ◌∷◌, ◌++◌, length, get_or, map, take, ap, ◌∙◌, arith}
use Rattle.std.proofs.lemmas.List.{map_more}
use Rattle.stmt_codec.specs.Certificates.{Certificate}
use Rattle.proof_cache.specs.Lease.{lease_of}

lease_of-push : (cs : List Certificate) (c : Certificate) → lease_of (cs ++ c ∷ []) ≡ min (lease_of cs) c.until
lease_of-push [] c = omega arith
lease_of-push (d ∷ cs) c = omega (arith, lease_of-push cs c)

pub lease_of-more : {X : Type 0} (f : X → Certificate) (xs : List X) (i : ℕ) (d : X) → i < length xs → lease_of (map f (take (i + 1) xs)) ≡ min (lease_of (map f (take i xs))) (f (get_or xs i d)).until
lease_of-more f xs i d lt = ap lease_of (map_more f xs i d lt) ∙ lease_of-push (map f (take i xs)) (f (get_or xs i d))
