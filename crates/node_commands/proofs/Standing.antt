-- Domains that stand for those of a file pass a certificate along as these do: keys are looked up.
use Rattle.std.proofs.Common.{◌≡◌, ℕ, Bool, true, false, cond, eqb, List, [], ◌∷◌, ◌++◌, map, Option, Some, None, refl, sym, subst, ◌∙◌, All}
use Rattle.std.specs.Prelude.{IsSome, take, slice_index_or}
use Rattle.keyed_seal.specs.Keys.{key_of}
use Rattle.stmt_codec.specs.Certificates.{Certificate}
use Rattle.sealed_cert.specs.Seals.{sealed_after}
use Rattle.frame_link.specs.Relay.{Said, Gave, Refuses}
use Rattle.relay_path.specs.declared.answer.Target.{Target}
use Rattle.relay_path.specs.declared.answer.Target.TheVariants.{Node, Peer}
use Rattle.relay_path.specs.declared.domain.Domain.{Domain}
use Rattle.relay_path.specs.Domains.{DomainKnows, domain_of, HasNode, HasPeer, IsNumberOf, knows}
use Rattle.relay_path.specs.Hopping.{front_for, IsHop, OpensHere, Returns, sender_key, target_key, is_of_wrong_kind, is_malformed, is_of_nobody_known, is_badly_sealed, is_a_loop, goes_too_far, is_for_nobody_known, is_passed}
use Rattle.relay_path.specs.PathView.{StandForDomains, StandsForDomain}
use Rattle.relay_path.specs.Paths.{AreKeys, HopsAt, IsKeyTo, IsPath, IsStopped, OpensAtFirst, Reaches, first, next, is_carried, is_no_domain, is_refused}
use Rattle.node_commands.specs.Words.{PathWords}
use Rattle.node_commands.specs.declared.path.PathEnd.{PathEnd}
use Rattle.node_commands.specs.declared.path.PathEnd.TheVariants as ends
use Rattle.node_commands.specs.Paths.{AreLines, Passes}

-- they have one number, and each look-up gives the same
record AreAlike (x y : DomainKnows) : Type 0 where
  pub number : x.number ≡ y.number
  pub issuers : (n : ℕ) → key_of x.issuers n ≡ key_of y.issuers n
  pub nodes : (n : ℕ) → key_of x.nodes n ≡ key_of y.nodes n
  pub peers : (n : ℕ) → key_of x.peers n ≡ key_of y.peers n

-- neither was found, or two that are alike
abbrev AreFound : Option DomainKnows → Option DomainKnows → Type 0
AreFound None None = Unit {0}
AreFound None (Some y) = ⊥
AreFound (Some x) None = ⊥
AreFound (Some x) (Some y) = AreAlike x y

alike : (x : Domain) (d : DomainKnows) → StandsForDomain x d → AreAlike (knows x) d
alike x d s = record { number = s.number; issuers = s.issuers.each; nodes = s.nodes.each; peers = s.peers.each }

found_first : (c : Bool) (x y : DomainKnows) (o p : Option DomainKnows) → AreAlike x y → AreFound o p → AreFound (cond c (Some x) o) (cond c (Some y) p)
found_first true x y o p same others = same
found_first false x y o p same others = others

looked_up : (domains : List Domain) (ds : List DomainKnows) → StandForDomains domains ds → (n : ℕ) → AreFound (domain_of (map knows domains) n) (domain_of ds n)
looked_up [] [] all n = tt
looked_up [] (d ∷ ds) all n = absurd all
looked_up (x ∷ xs) [] all n = absurd all
looked_up (x ∷ xs) (d ∷ ds) (s, all) n =
    subst (λ (m : ℕ). AreFound (cond (eqb x.number n) (Some (knows x)) (domain_of (map knows xs) n)) (cond (eqb m n) (Some d) (domain_of ds n))) s.number
    (found_first (eqb x.number n) (knows x) d (domain_of (map knows xs) n) (domain_of ds n) (alike x d s) (looked_up xs ds all n))

-- ---- what a domain says

module _ (x y : DomainKnows) (same : AreAlike x y) where
  sender_same : (visited : List ℕ) (issuer : ℕ) → sender_key x visited issuer ≡ sender_key y visited issuer
  sender_same [] issuer = same.issuers issuer
  sender_same (one ∷ more) issuer = same.peers _

  target_same : (t : Target) → target_key x t ≡ target_key y t
  target_same (Node node) = same.nodes node
  target_same (Peer peer) = same.peers peer

  opens_same : (visited bytes : List ℕ) (c : Certificate) → OpensHere x visited bytes c → OpensHere y visited bytes c
  opens_same visited bytes c o = record { key = o.key; known = sym (sender_same visited c.issuer) ∙ o.known; presented = o.presented }

  apart_same : (visited : List ℕ) (t : Target) → ¬ Returns x.number visited t → ¬ Returns y.number visited t
  apart_same visited t apart = subst (λ (n : ℕ). ¬ Returns n visited t) same.number apart

  hop_same : (t : Target) (bytes : List ℕ) (said : Said) → IsHop x t bytes said → IsHop y t bytes said
  hop_same t bytes said (is_of_wrong_kind relayed) = is_of_wrong_kind relayed
  hop_same t bytes said (is_malformed other none) = is_malformed other none
  hop_same t bytes said (is_of_nobody_known visited c tag presents unknown) =
      is_of_nobody_known visited c tag presents (sym (sender_same visited c.issuer) ∙ unknown)
  hop_same t bytes said (is_badly_sealed visited c tag key presents known differs) =
      is_badly_sealed visited c tag key presents (sym (sender_same visited c.issuer) ∙ known) differs
  hop_same t bytes said (is_a_loop visited c opens back) =
      is_a_loop visited c (opens_same visited bytes c opens) (subst (λ (n : ℕ). Returns n visited t) same.number back)
  hop_same t bytes said (goes_too_far visited c opens apart full) =
      goes_too_far visited c (opens_same visited bytes c opens) (apart_same visited t apart) full
  hop_same t bytes said (is_for_nobody_known visited c opens apart room unknown) =
      is_for_nobody_known visited c (opens_same visited bytes c opens) (apart_same visited t apart) room (sym (target_same t) ∙ unknown)
  hop_same t bytes said (is_passed visited c key opens apart room known) =
      subst (λ (n : ℕ). IsHop y t bytes (Gave (sealed_after (front_for t (visited ++ n ∷ [])) key c))) (sym same.number)
      (is_passed visited c key (opens_same visited bytes c opens) (apart_same visited t apart) room (sym (target_same t) ∙ known))

-- ---- along a route

module _ (xs ys : List DomainKnows) (each : (n : ℕ) → AreFound (domain_of xs n) (domain_of ys n)) where
  there : (o p : Option DomainKnows) (x : DomainKnows) → AreFound o p → o ≡ Some x → (y : DomainKnows) × (p ≡ Some y) × AreAlike x y
  there None p x found e = absurd (cc e)
  there (Some d) None x found e = absurd found
  there (Some d) (Some y) x found e = (y, refl, subst (λ (k : DomainKnows). AreAlike k y) (cc e) found)

  none_there : (o p : Option DomainKnows) → AreFound o p → o ≡ None → p ≡ None
  none_there None None found e = refl
  none_there None (Some y) found e = absurd found
  none_there (Some x) p found e = absurd (cc e)

  some_there : (o p : Option DomainKnows) → AreFound o p → IsSome o → IsSome p
  some_there None p found some = absurd (cc some)
  some_there (Some x) None found some = absurd found
  some_there (Some x) (Some y) found some = refl

  all_known : (route : List ℕ) → All (IsNumberOf xs) route → All (IsNumberOf ys) route
  all_known route all = λ k d within.
      let n = slice_index_or route k d in
      some_there (domain_of xs n) (domain_of ys n) (each n) (all k d within)

  peer_there : (a b : ℕ) (key : List ℕ) → HasPeer xs a b key → HasPeer ys a b key
  peer_there a b key (d, is, known) =
      let y = there (domain_of xs a) (domain_of ys a) d (each a) is in
      (y.0, y.1, sym (y.2.peers b) ∙ known)

  node_there : (a node : ℕ) (key : List ℕ) → HasNode xs a node key → HasNode ys a node key
  node_there a node key (d, is, known) =
      let y = there (domain_of xs a) (domain_of ys a) d (each a) is in
      (y.0, y.1, sym (y.2.nodes node) ∙ known)

  key_there : (node number : ℕ) (later key : List ℕ) → IsKeyTo xs node number later key → IsKeyTo ys node number later key
  key_there node number [] key has = node_there number node key has
  key_there node number (after ∷ later) key (to, back) = (peer_there number after key to, peer_there after number key back)

  keys_there : (node : ℕ) (route : List ℕ) (keys : List (List ℕ)) → AreKeys xs node route keys → AreKeys ys node route keys
  keys_there node [] [] are = tt
  keys_there node [] (key ∷ keys) are = absurd are
  keys_there node (number ∷ later) [] are = absurd are
  keys_there node (number ∷ later) (key ∷ keys) (is, are) = (key_there node number later key is, keys_there node later keys are)

  opens_there : (route bytes : List ℕ) (c : Certificate) → OpensAtFirst xs route bytes c → OpensAtFirst ys route bytes c
  opens_there [] bytes c opens = absurd opens
  opens_there (number ∷ later) bytes c (d, is, opens) =
      let y = there (domain_of xs number) (domain_of ys number) d (each number) is in
      (y.0, y.1, record { key = opens.key; known = sym (y.2.issuers c.issuer) ∙ opens.known; seal = opens.seal })

  path_there : (route : List ℕ) (node : ℕ) (bytes : List ℕ) (forms : List (List ℕ)) → IsPath xs route node bytes forms → IsPath ys route node bytes forms
  path_there route node bytes forms p = record {
    c = p.c;
    opens = opens_there route bytes p.c p.opens;
    known = all_known route p.known;
    distinct = p.distinct;
    keys = p.keys;
    linked = keys_there node route p.keys p.linked;
    are = p.are;
  }

  module _ (route : List ℕ) (node : ℕ) where
    hops_there : (place : ℕ) (given : List ℕ) (said : Said) → HopsAt xs route node place given said → HopsAt ys route node place given said
    hops_there place given said h =
        let y = there (domain_of xs h.number) (domain_of ys h.number) h.domain (each h.number) h.is in
        record { number = h.number; domain = y.0; stands = h.stands; is = y.1; hops = hop_same h.domain y.0 y.2 _ given said h.hops }

    reaches_there : (bytes : List ℕ) (place : ℕ) (given : List ℕ) → Reaches xs route node bytes place given → Reaches ys route node bytes place given
    reaches_there bytes place given first = first
    reaches_there bytes place given (next before had made reaches hops) = next before had made (reaches_there bytes before had reaches) (hops_there before had (Gave made) hops)

    stopped_there : (bytes : List ℕ) (hop code : ℕ) → IsStopped xs route node bytes hop code → IsStopped ys route node bytes hop code
    stopped_there bytes hop code (is_carried carried) = is_carried carried
    stopped_there bytes hop code (is_no_domain place number fresh stands none known) =
        is_no_domain place number fresh stands (none_there (domain_of xs number) (domain_of ys number) (each number) none) (all_known (take place route) known)
    stopped_there bytes hop code (is_refused place why given fresh known reaches hops) =
        is_refused place why given fresh (all_known route known) (reaches_there bytes place given reaches) (hops_there place given (Refuses why) hops)

  module _ (p : PathWords) where
    lines_there : (bytes lines : List ℕ) → AreLines xs p bytes lines → AreLines ys p bytes lines
    lines_there bytes lines (forms, path, are) = (forms, path_there p.route p.node bytes forms path, are)

    passes_there : (in0 in1 out0 out1 : Option (List ℕ)) (end : PathEnd) → Passes xs p in0 in1 out0 out1 end → Passes ys p in0 in1 out0 out1 end
    passes_there in0 in1 out0 out1 ends.Done (bytes, lines, brings, are, written) = (bytes, lines, brings, lines_there bytes lines are, written)
    passes_there in0 in1 out0 out1 (ends.Refused hop code) (bytes, brings, stopped, kept) = (bytes, brings, stopped_there p.route p.node bytes hop code stopped, kept)
    passes_there in0 in1 out0 out1 ends.ReadFault did = did
    passes_there in0 in1 out0 out1 ends.WriteFault (bytes, lines, brings, are, part) = (bytes, lines, brings, lines_there bytes lines are, part)
    passes_there in0 in1 out0 out1 ends.NoMemory did = did

-- what domains do that stand for others, these do
pub stand_passes : (domains : List Domain) (ds : List DomainKnows) (p : PathWords) (in0 in1 out0 out1 : Option (List ℕ)) (end : PathEnd) → StandForDomains domains ds →
    Passes (map knows domains) p in0 in1 out0 out1 end → Passes ds p in0 in1 out0 out1 end
stand_passes domains ds p in0 in1 out0 out1 end all did = passes_there (map knows domains) ds (looked_up domains ds all) p in0 in1 out0 out1 end did
