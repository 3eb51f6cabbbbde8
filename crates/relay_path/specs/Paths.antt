-- Paths: what the domains of a route seal, one after another, of one body; or why they do not.
use Rattle.std.specs.Prelude.{◌≡◌, ◌≢◌, ℕ, ◌+◌, ◌-◌, ◌<◌, ◌≤◌, ◌^◌, List, [], ◌∷◌, ◌++◌, length}
use Rattle.std.specs.Prelude.{take, drop, slice_get}
use Rattle.std.specs.Prelude.{All, AllPairs, Some, None, flat_map}
use Rattle.hex.specs.Hex.{encode_lower}
use Rattle.stmt_codec.specs.Certificates.{Certificate}
use Rattle.sealed_cert.specs.declared.kind.TheConstants.{RELAYED}
use Rattle.sealed_cert.specs.Seals.{Opens, OpensIssued, sealed}
use Rattle.frame_link.specs.Relay.{Said, Gave, Refuses}
use Rattle.relay_core.specs.declared.code.TheConstants.{WRONG_KIND}
use Rattle.relay_path.specs.declared.answer.Along.{Along}
use Rattle.relay_path.specs.declared.answer.Along.TheVariants as ends
use Rattle.relay_path.specs.declared.code.TheConstants.{UNKNOWN_DOMAIN}
use Rattle.relay_path.specs.declared.limits.TheConstants.{MAX_ROUTE}
use Rattle.relay_path.specs.declared.answer.Target.{Target}
use Rattle.relay_path.specs.declared.answer.Target.TheVariants.{Node, Peer}
use Rattle.relay_path.specs.Carrying.{IsCarried, carried}
use Rattle.relay_path.specs.Domains.{DomainKnows, domain_of, HasNode, HasPeer, IsNumberOf, LinksAgree}
use Rattle.relay_path.specs.Hopping.{IsHop}

-- the first domain of the route opens the bytes to c, by an issuer's key
abbrev pub OpensAtFirst : List DomainKnows → List ℕ → List ℕ → Certificate → Type 0
OpensAtFirst ds [] bytes c = ⊥
OpensAtFirst ds (first ∷ later) bytes c =
    (d : DomainKnows) × (domain_of ds first ≡ Some d) × OpensIssued d.issuers bytes c

-- the key of a domain and of what comes after it: the next domain, which has the same key for it, or
-- the node
abbrev pub IsKeyTo : List DomainKnows → ℕ → ℕ → List ℕ → List ℕ → Type 0
IsKeyTo ds node number [] key = HasNode ds number node key
IsKeyTo ds node number (next ∷ later) key = HasPeer ds number next key × HasPeer ds next number key

-- such keys, one for each place of the route
abbrev pub AreKeys : List DomainKnows → ℕ → List ℕ → List (List ℕ) → Type 0
AreKeys ds node [] [] = Unit {0}
AreKeys ds node [] (key ∷ keys) = ⊥
AreKeys ds node (number ∷ later) [] = ⊥
AreKeys ds node (number ∷ later) (key ∷ keys) =
    IsKeyTo ds node number later key × AreKeys ds node later keys

-- the form of c that is sealed after these visited domains: for the next domain, or for the node
abbrev pub form_for : List ℕ → List ℕ → List ℕ → Certificate → List ℕ
form_for [] visited key c = sealed RELAYED key c
form_for (next ∷ later) visited key c = carried visited key c

-- the forms of c, one for each place of the route, after these visited domains
abbrev pub forms_of : List ℕ → List ℕ → List (List ℕ) → Certificate → List (List ℕ)
forms_of visited [] keys c = []
forms_of visited (number ∷ later) [] c = []
forms_of visited (number ∷ later) (key ∷ keys) c =
    form_for later (visited ++ number ∷ []) key c ∷ forms_of (visited ++ number ∷ []) later keys c

-- the route leads to the node, and these are the sealed forms of one body, one for each of its places
pub record IsPath (ds : List DomainKnows) (route : List ℕ) (node : ℕ) (bytes : List ℕ) (forms : List (List ℕ)) : Type 0 where
  pub c : Certificate
  pub opens : OpensAtFirst ds route bytes c
  pub known : All (IsNumberOf ds) route
  pub distinct : AllPairs (λ m n. m ≢ n) route
  pub keys : List (List ℕ)
  pub linked : AreKeys ds node route keys
  pub are : forms ≡ forms_of [] route keys c

-- there is such a path
abbrev pub HasPath : List DomainKnows → List ℕ → ℕ → List ℕ → Type 0
HasPath ds route node bytes = (forms : List (List ℕ)) × IsPath ds route node bytes forms

-- the forms of two such paths are the same
abbrev pub HasOnePath : List DomainKnows → List ℕ → ℕ → List ℕ → Type 0
HasOnePath ds route node bytes =
    (forms others : List (List ℕ)) → IsPath ds route node bytes forms →
    IsPath ds route node bytes others → forms ≡ others

-- the domain of the last number has the node, and the last form opens under its key to c
abbrev pub LastOpens : List DomainKnows → List ℕ → ℕ → List (List ℕ) → Certificate → Type 0
LastOpens ds route node forms c =
    (number : ℕ) × (key form : List ℕ) × (slice_get route (length route - 1) ≡ Some number)
    × HasNode ds number node key × (slice_get forms (length forms - 1) ≡ Some form)
    × Opens key form c

-- what the laws of paths speak of: bytes, links that agree, and a route that is not too long
pub record IsRoute (ds : List DomainKnows) (route bytes : List ℕ) : Type 0 where
  pub some : 1 ≤ length route
  pub short : length route ≤ MAX_ROUTE
  pub numbers : All (λ n. n < 2 ^ 32) route
  pub links : LinksAgree ds
  pub bytes_are : All (λ b. b < 256) bytes

-- ---- where a route stops

-- whom a domain of a route passes to, where these numbers stand after it
abbrev pub target_of : ℕ → List ℕ → Target
target_of node [] = Node node
target_of node (next ∷ later) = Peer next

-- the domain at a place of the route says this of what comes to it
pub record HopsAt (ds : List DomainKnows) (route : List ℕ) (node place : ℕ) (given : List ℕ) (said : Said) : Type 0 where
  pub number : ℕ
  pub domain : DomainKnows
  pub stands : slice_get route place ≡ Some number
  pub is : domain_of ds number ≡ Some domain
  pub hops : IsHop domain (target_of node (drop (place + 1) route)) given said

-- what comes to the domain at a place of the route: to the first the bytes, to any other what the one
-- before it sealed
pub data Reaches (ds : List DomainKnows) (route : List ℕ) (node : ℕ) (bytes : List ℕ) : ℕ → List ℕ → Type 0 where
  first : Reaches ds route node bytes 0 bytes
  next : (place : ℕ) (given made : List ℕ) →
      Reaches ds route node bytes place given → HopsAt ds route node place given (Gave made) →
      Reaches ds route node bytes (place + 1) made

-- Why there is no path, at this place of the route and by this code: the bytes visited a domain before;
-- else the number at the place is the first that is no domain's; else the domain at the place refuses.
pub data IsStopped (ds : List DomainKnows) (route : List ℕ) (node : ℕ) (bytes : List ℕ) : ℕ → ℕ → Type 0 where
  is_carried :
      IsCarried bytes →
      IsStopped ds route node bytes 0 WRONG_KIND
  is_no_domain : (place number : ℕ) →
      ¬ IsCarried bytes → slice_get route place ≡ Some number → domain_of ds number ≡ None →
      All (IsNumberOf ds) (take place route) →
      IsStopped ds route node bytes place UNKNOWN_DOMAIN
  is_refused : (place code : ℕ) (given : List ℕ) →
      ¬ IsCarried bytes → All (IsNumberOf ds) route →
      Reaches ds route node bytes place given → HopsAt ds route node place given (Refuses code) →
      IsStopped ds route node bytes place code

-- the route stops somewhere
abbrev pub Stops : List DomainKnows → List ℕ → ℕ → List ℕ → Type 0
Stops ds route node bytes = (hop : ℕ) × (code : ℕ) × IsStopped ds route node bytes hop code

-- ---- what is told of it

-- the line of a form: its bytes in lower case hex, and a line feed
abbrev pub line_of : List ℕ → List ℕ
line_of form = encode_lower form ++ 10 ∷ []

-- the forms of a path were appended, a line each; or nothing was, and the answer says why
abbrev pub Goes : List DomainKnows → List ℕ → ℕ → List ℕ → Along → List ℕ → List ℕ → Type 0
Goes ds route node bytes ends.Done old new =
    (forms : List (List ℕ)) × IsPath ds route node bytes forms × (new ≡ old ++ flat_map line_of forms)
Goes ds route node bytes (ends.Refused hop code) old new =
    IsStopped ds route node bytes hop code × (new ≡ old)
Goes ds route node bytes ends.NoMemory old new = new ≡ old
