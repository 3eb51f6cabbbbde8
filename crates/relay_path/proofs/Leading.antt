-- A path is where the whole route goes.
use Rattle.std.proofs.Common.{◌≡◌, ◌≢◌, ◌⊎◌, ℕ, suc, ◌+◌, ◌-◌, ◌<◌, ◌≤◌, ◌^◌, List, [], ◌∷◌, ◌++◌, length, map, Option, Some, None, Result, Ok, Err, refl, sym, ap, subst, ◌∙◌, append_assoc, arith, inl, inr, All, length-append}
use Rattle.std.specs.Prelude.{AllPairs, Contains, slice_get}
use Rattle.byte_fields.proofs.FieldLaws.{IsBytes, bytes_are}
use Rattle.byte_fields.proofs.Results.{ok_is, err_is}
use Rattle.keyed_seal.specs.Tag.{tag_of}
use Rattle.keyed_seal.proofs.Tags.{length-tag_of}
use Rattle.stmt_codec.specs.Certificates.{Certificate, body_spelling}
use Rattle.sealed_cert.specs.Seals.{Opens, OpensIssued, sealed, sealed_text, text_after}
use Rattle.frame_link.specs.Relay.{Said, Gave, Refuses}
use Rattle.relay_path.specs.declared.answer.Along.{Along}
use Rattle.relay_path.specs.declared.answer.Along.TheVariants as ends
use Rattle.relay_path.specs.declared.answer.Target.{Target}
use Rattle.relay_path.specs.declared.opening.HopFault.{HopFault}
use Rattle.relay_path.specs.declared.opening.HopFault.TheVariants.{Refused, NoMemory}
use Rattle.relay_path.specs.Carrying.{front_of, IsCarried}
use Rattle.relay_path.specs.Domains.{DomainKnows, domain_of, HasNode, IsNumberOf, LinksAgree}
use Rattle.relay_path.specs.Going.{first_unknown, hops_from, hops_known, went}
use Rattle.relay_path.specs.Hopping.{OpensHere}
use Rattle.relay_path.specs.Opening.{hopped, opened_here, said_of}
use Rattle.relay_path.specs.Paths.{AreKeys, form_for, forms_of, IsPath, IsRoute, IsStopped, LastOpens, OpensAtFirst, target_of}
use Rattle.relay_path.proofs.Apart.{apart_pairs, pairs_apart}
use Rattle.relay_path.proofs.Front.{AreNumbers}
use Rattle.relay_path.proofs.Known.{all_known, known_all}
use Rattle.relay_path.proofs.Opened.{opened_takes}
use Rattle.relay_path.proofs.Passing.{backwards, forwards, gone, IsOpened}
use Rattle.relay_path.proofs.Stopping.{stopped, stopped_again, went_carried, went_else}

-- ---- under an issuer's key, and with no domain visited

opens_issued : (d : DomainKnows) (bytes : List ℕ) (c : Certificate) → OpensHere d [] bytes c → OpensIssued d.issuers bytes c
opens_issued d bytes c is =
    let s = is.presented.spelled in
    record { key = is.key; known = is.known; seal = record { text = s.text; numbers = s.numbers; limits = s.limits } }

issued_opens : (d : DomainKnows) (bytes : List ℕ) (c : Certificate) → OpensIssued d.issuers bytes c → OpensHere d [] bytes c
issued_opens d bytes c is = record {
  key = is.key;
  known = is.known;
  presented = record {
    few = omega arith;
    numbers = λ k n below. absurd (omega (arith, below));
    spelled = record { text = is.seal.text; whole_tag = length-tag_of is.key (sealed_text 1 c); numbers = is.seal.numbers; limits = is.seal.limits };
  };
}

not_both : (x y bytes : List ℕ) → bytes ≡ 1 ∷ x → bytes ≡ 3 ∷ y → ⊥
not_both x y bytes e f = absurd (cc (e, f))

issued_is_not_carried : (d : DomainKnows) (bytes : List ℕ) (c : Certificate) → OpensIssued d.issuers bytes c → ¬ IsCarried bytes
issued_is_not_carried d bytes c is = λ carried. not_both (body_spelling c ++ tag_of is.key (sealed_text 1 c)) carried.0 bytes is.seal.text carried.1

none_visited : (d : DomainKnows) (visited bytes : List ℕ) (c : Certificate) → OpensHere d visited bytes c → ¬ IsCarried bytes → OpensHere d [] bytes c
none_visited d [] bytes c is other = is
none_visited d (v ∷ vs) bytes c is other = absurd (other (carried_rest (front_of (v ∷ vs)) (tag_of is.key (text_after (front_of (v ∷ vs)) c)) is.presented.spelled.text))
  where
    carried_rest : (front tag : List ℕ) → bytes ≡ (front_of (v ∷ vs) ++ body_spelling c) ++ tag → IsCarried bytes
    carried_rest front tag e = (_, e)

opened_is : (d : DomainKnows) (target : Target) (bytes made : List ℕ) (r : Result (List ℕ × Certificate) HopFault) → opened_here d bytes ≡ r → said_of d target r ≡ Gave made → (x : List ℕ × Certificate) × (opened_here d bytes ≡ Ok x)
opened_is d target bytes made (Ok x) e gave = (x, e)
opened_is d target bytes made (Err (Refused code)) e gave = absurd cc
opened_is d target bytes made (Err NoMemory) e gave = absurd cc

module _ (ds : List DomainKnows) (route bytes : List ℕ) (node : ℕ) (is : IsRoute ds route bytes) where
  fits : IsBytes bytes
  fits = bytes_are bytes is.bytes_are

  -- ---- what goes is a path

  known_went : (forms : List (List ℕ)) → (o : Option ℕ) → first_unknown ds route ≡ o → hops_known ds route node bytes o ≡ Ok forms → (first_unknown ds route ≡ None) × (hops_from ds node 0 route bytes ≡ Ok forms)
  known_went forms None e w = (e, w)
  known_went forms (Some place) e w = absurd cc

  path_of : (all : List ℕ) (forms : List (List ℕ)) → all ≡ route → ¬ IsCarried bytes → All (IsNumberOf ds) route → hops_from ds node 0 all bytes ≡ Ok forms → IsPath ds route node bytes forms
  path_of [] forms same other known w = absurd (omega (arith, is.some, ap length same))
  path_of (n ∷ later) forms same other known w =
      let g = gone ds node n later 0 bytes forms w in
      let o = opened_is g.domain (target_of node later) bytes g.made (opened_here g.domain bytes) refl g.gave in
      let opens = none_visited g.domain o.0.0 bytes o.0.1 (opened_takes g.domain bytes o.0 fits o.1) other in
      let walk = backwards ds node is.links (n ∷ later) [] bytes o.0.1 0 forms (subst AreNumbers (sym same) is.numbers) (g.domain, g.is, opens) w in
      record {
        c = o.0.1;
        opens = subst (λ (r : List ℕ). OpensAtFirst ds r bytes o.0.1) same (g.domain, g.is, opens_issued g.domain bytes o.0.1 opens);
        known = known;
        distinct = subst (AllPairs (λ m n. m ≢ n)) same (apart_pairs [] (n ∷ later) walk.apart);
        keys = walk.keys;
        linked = subst (λ (r : List ℕ). AreKeys ds node r walk.keys) same walk.linked;
        are = walk.are ∙ ap (λ (r : List ℕ). forms_of [] r walk.keys o.0.1) same;
      }

  pub goes_is_path : (forms : List (List ℕ)) → went ds route node bytes ≡ Ok forms → IsPath ds route node bytes forms
  goes_is_path forms e =
      let other : ¬ IsCarried bytes = λ c. carried_stops forms (sym (went_carried ds route node bytes c) ∙ e) in
      let k = known_went forms (first_unknown ds route) refl (sym (went_else ds route node bytes other) ∙ e) in
      path_of route forms refl other (all_known ds route k.0) k.1
    where
      carried_stops : (forms : List (List ℕ)) → Err (ends.Refused 0 4) ≡ Ok forms → ⊥
      carried_stops forms e = absurd cc

  -- ---- and a path is what goes

  first_opened : (all : List ℕ) (c : Certificate) → OpensAtFirst ds all bytes c → IsOpened ds [] bytes all c × (¬ IsCarried bytes)
  first_opened [] c opens = absurd opens
  first_opened (n ∷ later) c (d, there, opens) = ((d, there, issued_opens d bytes c opens), issued_is_not_carried d bytes c opens)

  pub path_goes : (forms : List (List ℕ)) → IsPath ds route node bytes forms → went ds route node bytes ≡ Ok forms
  path_goes forms path =
      let o = first_opened route path.c path.opens in
      let apart = pairs_apart [] route path.distinct (λ x there none. none_contained x none) in
      went_else ds route node bytes o.1 ∙ ap (hops_known ds route node bytes) (known_all ds route path.known)
      ∙ forwards ds node route [] bytes path.c path.keys 0 is.numbers o.0 apart path.linked (omega (arith, is.short)) ∙ ap (λ (f : List (List ℕ)). Ok f) (sym path.are)
    where
      none_contained : (x : ℕ) → Contains [] x → ⊥
      none_contained x (k, below, e) = omega (arith, below)

  -- ---- one of both, in one way

  one_of_both : (r : Result (List (List ℕ)) Along) → went ds route node bytes ≡ r → ((forms : List (List ℕ)) × IsPath ds route node bytes forms) ⊎ ((hop : ℕ) × (code : ℕ) × IsStopped ds route node bytes hop code)
  one_of_both (Ok forms) e = inl (forms, goes_is_path forms e)
  one_of_both (Err ends.Done) e = absurd (stopped ds route node bytes fits ends.Done e)
  one_of_both (Err (ends.Refused hop code)) e = inr (hop, code, stopped ds route node bytes fits (ends.Refused hop code) e)
  one_of_both (Err ends.NoMemory) e = absurd (stopped ds route node bytes fits ends.NoMemory e)

  pub leads_or_stops : ((forms : List (List ℕ)) × IsPath ds route node bytes forms) ⊎ ((hop : ℕ) × (code : ℕ) × IsStopped ds route node bytes hop code)
  leads_or_stops = one_of_both (went ds route node bytes) refl

  pub never_both : (hop code : ℕ) (forms : List (List ℕ)) → IsPath ds route node bytes forms → ¬ IsStopped ds route node bytes hop code
  never_both hop code forms path = λ s. let a = path_goes forms path in let b = stopped_again ds route node bytes fits hop code s in absurd (cc (a, b))

  pub one_path : (forms others : List (List ℕ)) → IsPath ds route node bytes forms → IsPath ds route node bytes others → forms ≡ others
  one_path forms others path other = ok_is Along forms others (sym (path_goes forms path) ∙ path_goes others other)

  pub one_stop : (hop code h c : ℕ) → IsStopped ds route node bytes hop code → IsStopped ds route node bytes h c → (hop ≡ h) × (code ≡ c)
  one_stop hop code h c s t =
      let same : ends.Refused hop code ≡ ends.Refused h c = err_is (List (List ℕ)) (ends.Refused hop code) (ends.Refused h c) (sym (stopped_again ds route node bytes fits hop code s) ∙ stopped_again ds route node bytes fits h c t) in
      let first : hop ≡ h = cc same in
      let second : code ≡ c = cc same in
      (first, second)

-- ---- the last form

module _ (ds : List DomainKnows) (node : ℕ) (c : Certificate) where
  -- the last domain has the node, and the last form is sealed for it
  abbrev pub IsLast : List ℕ → List (List ℕ) → Type 0
  IsLast route forms = (number : ℕ) × (key form : List ℕ) × (slice_get route (length route - 1) ≡ Some number) × HasNode ds number node key × (slice_get forms (length forms - 1) ≡ Some form) × (form ≡ sealed 2 key c)

  longer : {A : Type 0} (x y : A) (xs : List A) → slice_get (x ∷ y ∷ xs) (length (x ∷ y ∷ xs) - 1) ≡ slice_get (y ∷ xs) (length (y ∷ xs) - 1)
  longer x y xs = let one : length (x ∷ y ∷ xs) - 1 ≡ suc (length (y ∷ xs) - 1) = omega arith in ap (slice_get (x ∷ y ∷ xs)) one

  last_is : (route visited : List ℕ) (keys : List (List ℕ)) → 1 ≤ length route → AreKeys ds node route keys → IsLast route (forms_of visited route keys c)
  last_is [] visited keys some linked = absurd (omega (arith, some))
  last_is (n ∷ later) visited [] some linked = absurd linked
  last_is (n ∷ []) visited (key ∷ keys) some linked = (n, key, sealed 2 key c, refl, linked.0, refl, refl)
  last_is (n ∷ m ∷ rest) visited (key ∷ []) some linked = absurd linked.1
  last_is (n ∷ m ∷ rest) visited (key ∷ k ∷ keys) some linked =
      let l = last_is (m ∷ rest) (visited ++ n ∷ []) (k ∷ keys) (omega arith) linked.1 in
      (l.0, l.1, l.2, longer n m rest ∙ l.3, l.4, longer (form_for (m ∷ rest) (visited ++ n ∷ []) key c) (form_for rest ((visited ++ n ∷ []) ++ m ∷ []) k c) (forms_of ((visited ++ n ∷ []) ++ m ∷ []) rest keys c) ∙ l.5, l.6)

some_first : (ds : List DomainKnows) (route bytes : List ℕ) (c : Certificate) → OpensAtFirst ds route bytes c → (1 ≤ length route) × ((d : DomainKnows) × OpensIssued d.issuers bytes c)
some_first ds [] bytes c opens = absurd opens
some_first ds (n ∷ later) bytes c (d, there, opens) = (omega arith, (d, opens))

pub last_opens : (ds : List DomainKnows) (route bytes : List ℕ) (node : ℕ) (forms : List (List ℕ)) → (path : IsPath ds route node bytes forms) → LastOpens ds route node forms path.c
last_opens ds route bytes node forms path =
    let s = some_first ds route bytes path.c path.opens in
    let l = subst (IsLast ds node path.c route) (sym path.are) (last_is ds node path.c route [] path.keys s.0 path.linked) in
    (l.0, l.1, l.2, l.3, l.4, l.5, record { text = l.6; numbers = s.1.1.seal.numbers; limits = s.1.1.seal.limits })
