-- What becomes of a route, as one function: hop after hop, or where it stops.
use Rattle.std.specs.Prelude.{◌≡◌, ℕ, ◌+◌, ◌==◌, Bool, false, not, is_some, if◌then◌else◌, List, [], ◌∷◌, ◌++◌}
use Rattle.std.specs.Prelude.{Option, None, Some, Result, Ok, Err, flat_map}
use Rattle.std.specs.List.{position}
use Rattle.byte_fields.specs.Steps.{◌>>=◌, with_value}
use Rattle.frame_link.specs.Relay.{Said, Gave, Refuses}
use Rattle.relay_core.specs.declared.code.TheConstants.{WRONG_KIND}
use Rattle.relay_path.specs.declared.answer.Along.{Along}
use Rattle.relay_path.specs.declared.answer.Along.TheVariants as ends
use Rattle.relay_path.specs.declared.code.TheConstants.{UNKNOWN_DOMAIN}
use Rattle.relay_path.specs.declared.limits.TheConstants.{CARRIED}
use Rattle.relay_path.specs.Domains.{DomainKnows, domain_of}
use Rattle.relay_path.specs.Opening.{hopped}
use Rattle.relay_path.specs.Paths.{line_of, target_of}

-- what is there, or where the route stops
abbrev pub or_stop : {A : Type 0} → ℕ → ℕ → Option A → Result A Along
or_stop place code None = Err (ends.Refused place code)
or_stop place code (Some x) = Ok x

-- what was sealed, or where the route stops
abbrev pub given_at : ℕ → Said → Result (List ℕ) Along
given_at place (Gave made) = Ok made
given_at place (Refuses code) = Err (ends.Refused place code)

-- one form before others
abbrev pub before : List ℕ → List (List ℕ) → List (List ℕ)
before form forms = form ∷ forms

-- the forms that the domains of a route seal from a place on, to the first of which this is given
abbrev pub hops_from : List DomainKnows → ℕ → ℕ → List ℕ → List ℕ → Result (List (List ℕ)) Along
hops_from ds node place [] given = Ok []
hops_from ds node place (number ∷ later) given =
    or_stop place UNKNOWN_DOMAIN (domain_of ds number) >>= λ d.
    given_at place (hopped d (target_of node later) given) >>= λ made.
    with_value (before made) (hops_from ds node (place + 1) later made)

-- the first place of a route whose number is no domain's
abbrev pub first_unknown : List DomainKnows → List ℕ → Option ℕ
first_unknown ds route = position (λ number. not (is_some (domain_of ds number))) route

-- the same, where each number is a domain's
abbrev pub hops_known : List DomainKnows → List ℕ → ℕ → List ℕ → Option ℕ → Result (List (List ℕ)) Along
hops_known ds route node bytes None = hops_from ds node 0 route bytes
hops_known ds route node bytes (Some place) = Err (ends.Refused place UNKNOWN_DOMAIN)

-- whether the bytes begin as those of a certificate that visited some domain
abbrev pub begins_carried : List ℕ → Bool
begins_carried [] = false
begins_carried (first ∷ rest) = first == CARRIED

-- the forms of the whole route, or where it stops
abbrev pub went : List DomainKnows → List ℕ → ℕ → List ℕ → Result (List (List ℕ)) Along
went ds route node bytes =
    if begins_carried bytes then Err (ends.Refused 0 WRONG_KIND)
    else hops_known ds route node bytes (first_unknown ds route)

-- the lines of the forms were appended, or some bytes, and the route stopped
abbrev pub GoesAs : Result (List (List ℕ)) Along → Along → List ℕ → List ℕ → Type 0
GoesAs want ends.Done old new =
    (forms : List (List ℕ)) × (want ≡ Ok forms) × (new ≡ old ++ flat_map line_of forms)
GoesAs want (ends.Refused hop code) old new =
    (want ≡ Err (ends.Refused hop code)) × ((more : List ℕ) × (new ≡ old ++ more))
GoesAs want ends.NoMemory old new = (more : List ℕ) × (new ≡ old ++ more)
