-- Looking for a domain by its number, in what the program holds and in what it stands for.
use Rattle.std.proofs.Common.{◌≡◌, ℕ, Bool, true, false, cond, eqb, List, [], ◌∷◌, map, Option, Some, None, Bor, refl, ap, sym, ◌∙◌}
use Rattle.std.specs.Prelude.{find, ◌==◌}
use Rattle.std.specs.Option.{option_map}
use Rattle.relay_path.specs.declared.domain.Domain.{Domain}
use Rattle.relay_path.specs.Domains.{DomainKnows, domain_of, knows}

chosen_seen : (b : Bool) (d : Domain) (o : Option Domain) (p : Option DomainKnows) → p ≡ option_map knows o → cond b (Some (knows d)) p ≡ option_map knows (cond b (Some d) o)
chosen_seen true d o p e = refl
chosen_seen false d o p e = e

pub found_knows : (domains : List Domain) (n : ℕ) → domain_of (map knows domains) n ≡ option_map knows (find (λ d. d.number == n) domains)
found_knows [] n = refl
found_knows (d ∷ domains) n = chosen_seen (eqb d.number n) d (find (λ d. d.number == n) domains) (domain_of (map knows domains) n) (found_knows domains n)

lent : (o : Option (Bor Domain)) → option_map (λ d. knows d.now) o ≡ option_map knows (option_map (λ d. d.now) o)
lent None = refl
lent (Some d) = refl

pub lent_knows : (o : Option (Bor Domain)) (domains : List Domain) (n : ℕ) → option_map (λ d. d.now) o ≡ find (λ d. d.number == n) domains → option_map (λ d. knows d.now) o ≡ domain_of (map knows domains) n
lent_knows o domains n e = lent o ∙ ap (option_map knows) e ∙ sym (found_knows domains n)
