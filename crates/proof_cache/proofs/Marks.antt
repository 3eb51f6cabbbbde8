-- Proofs that are kept for the same have the same mark.
use Rattle.std.proofs.Common.{◌≡◌, ◌≢◌, ◌∙◌, ℕ, true, false, inl, inr, ap₂, sym}
use Rattle.std.proofs.lemmas.Bool.{and_parts, cases_Bool}
use Rattle.prin_term.specs.Principal.{Principal}
use Rattle.stmt_codec.specs.Distinct.{same_principal}
use Rattle.stmt_codec.proofs.Same.{same_principal-true}
use Rattle.proof_cache.specs.Cached.{Cached}
use Rattle.proof_cache.specs.Cache.{is_for}
use Rattle.proof_cache.specs.Mark.{mark_of}

pub is_kept_for : (subject who : Principal) (c : Cached) → is_for subject who c ≡ true →
    (c.subject ≡ subject) × (c.who ≡ who)
is_kept_for subject who c h =
    let both = and_parts (same_principal c.subject subject) (same_principal c.who who) h in
    (same_principal-true c.subject subject both.0, same_principal-true c.who who both.1)

pub marked : (subject who : Principal) (c : Cached) → is_for subject who c ≡ true →
    mark_of c.subject c.who ≡ mark_of subject who
marked subject who c h =
    let same = is_kept_for subject who c h in ap₂ mark_of same.0 same.1

-- a proof of another mark is kept for others
pub other_mark : (subject who : Principal) (c : Cached) (m n : ℕ) → m ≡ mark_of c.subject c.who →
    n ≡ mark_of subject who → m ≢ n → is_for subject who c ≡ false
other_mark subject who c m n is wanted differ =
    elim (cases_Bool (is_for subject who c)) [
      | inl same ↦
          absurd (differ (is ∙ marked subject who c same ∙ sym wanted))
      | inr other ↦ other
    ]
