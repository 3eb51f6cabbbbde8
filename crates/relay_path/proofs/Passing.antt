-- Hop after hop: a path is what they seal, and what they seal is a path.
use Rattle.std.proofs.Common.{◌≡◌, ◌≢◌, ℕ, suc, ◌+◌, ◌<◌, ◌≤◌, ◌^◌, Bool, true, false, cond, List, [], ◌∷◌, ◌++◌, length, get_or, map, Option, Some, None, Result, Ok, Err, refl, sym, ap, subst, ◌∙◌, arith, inl, inr, ◌⊎◌, All, length-append, append_assoc}
use Rattle.std.specs.Prelude.{Contains, slice_index, slice_get, ◌-◌}
use Rattle.std.proofs.lemmas.Bool.{false≢true}
use Rattle.std.proofs.lemmas.List.Elements.{All-append, All-cons, All-head, All-nil, All-tail, Contains-append_left, Contains-push}
use Rattle.std.proofs.Math.Seq.{get_or-append_seam}
use Rattle.byte_fields.specs.Steps.{◌>>=◌, with_value}
use Rattle.byte_fields.proofs.Results.{bind_ok, chosen, ok_is}
use Rattle.keyed_seal.specs.Keys.{key_of}
use Rattle.keyed_seal.specs.Tag.{tag_of}
use Rattle.keyed_seal.proofs.Tags.{length-tag_of}
use Rattle.stmt_codec.specs.Certificates.{Certificate}
use Rattle.sealed_cert.specs.Seals.{sealed_after, text_after}
use Rattle.frame_link.specs.Relay.{Said, Gave, Refuses}
use Rattle.relay_path.specs.declared.answer.Along.{Along}
use Rattle.relay_path.specs.declared.answer.Along.TheVariants as ends
use Rattle.relay_path.specs.declared.answer.Target.{Target}
use Rattle.relay_path.specs.declared.answer.Target.TheVariants.{Node, Peer}
use Rattle.relay_path.specs.declared.opening.HopFault.TheVariants.{Refused}
use Rattle.relay_path.specs.Carrying.{front_of, carried, Presents}
use Rattle.relay_path.specs.Domains.{DomainKnows, domain_of, HasNode, HasPeer, LinksAgree}
use Rattle.relay_path.specs.Going.{before, given_at, hops_from, or_stop}
use Rattle.relay_path.specs.Hopping.{HasRoom, OpensHere, passed, Returns, here, there, itself, sender_key, target_key}
use Rattle.relay_path.specs.Opening.{has_room, hopped, opened_here, returns, said_of, sealed_for}
use Rattle.relay_path.specs.Paths.{AreKeys, form_for, forms_of, IsKeyTo, target_of}
use Rattle.relay_path.proofs.Cases.{goes_on}
use Rattle.relay_path.proofs.Front.{AreNumbers}
use Rattle.relay_path.proofs.Known.{number_is, one_domain}
use Rattle.relay_path.proofs.Opened.{nobody_known, opened_again}
use Rattle.relay_path.proofs.Visits.{it_returns, never_returns, no_return, is_room, room_is}

-- ---- none of the route was visited, and none comes twice

abbrev pub AreApart : List ℕ → List ℕ → Type 0
AreApart visited [] = Unit {0}
AreApart visited (n ∷ later) = ¬ Contains visited n × AreApart (visited ++ n ∷ []) later

contains_left : (visited : List ℕ) (n m : ℕ) → Contains visited m → Contains (visited ++ n ∷ []) m
contains_left visited n m c = Contains-append_left visited (n ∷ []) m c

contains_last : (visited : List ℕ) (n m : ℕ) → m ≡ n → Contains (visited ++ n ∷ []) m
contains_last visited n m same = subst (Contains (visited ++ n ∷ [])) (sym same) (Contains-push visited n)

-- ---- one hop, of what a domain opened

-- the tests that a hop passed, and what it sealed
record Passes (d : DomainKnows) (target : Target) (visited : List ℕ) (c : Certificate) (made : List ℕ) : Type 0 where
  pub never : ¬ Returns d.number visited target
  pub room : HasRoom target visited
  pub key : List ℕ
  pub known : target_key d target ≡ Some key
  pub is : made ≡ passed d target visited key c

gave_is : (x y : List ℕ) → Gave x ≡ Gave y → x ≡ y
gave_is x y e = cc

sealed_key : (d : DomainKnows) (target : Target) (visited : List ℕ) (c : Certificate) (made : List ℕ) (key : Option (List ℕ)) → sealed_for d target visited c key ≡ Gave made → (k : List ℕ) × (key ≡ Some k) × (made ≡ passed d target visited k c)
sealed_key d target visited c made None e = absurd cc
sealed_key d target visited c made (Some k) e = (k, refl, gave_is made (passed d target visited k c) (sym e))

passes : (d : DomainKnows) (target : Target) (visited : List ℕ) (c : Certificate) (made : List ℕ) → said_of d target (Ok (visited, c)) ≡ Gave made → Passes d target visited c made
passes d target visited c made e = elim (chosen (returns d.number visited target) (Refuses 8) (cond (has_room target visited) (sealed_for d target visited c (target_key d target)) (Refuses 9)) (Gave made) e) [
  | inl again ↦ absurd (cc (again.1))
  | inr never ↦ elim (chosen (has_room target visited) (sealed_for d target visited c (target_key d target)) (Refuses 9) (Gave made) never.1) [
    | inl room ↦
        let k = sealed_key d target visited c made (target_key d target) room.1 in
        record { never = no_return d.number visited target never.0; room = is_room target visited room.0; key = k.0; known = k.1; is = k.2 }
    | inr none ↦ absurd (cc (none.1))
  ]
]

hops_give : (d : DomainKnows) (target : Target) (visited given : List ℕ) (c : Certificate) (made : List ℕ) → OpensHere d visited given c → hopped d target given ≡ Gave made → Passes d target visited c made
hops_give d target visited given c made opens e = passes d target visited c made (sym (ap (said_of d target) (opened_again d visited given c opens)) ∙ e)

gives_again : (d : DomainKnows) (target : Target) (visited given : List ℕ) (c : Certificate) (key : List ℕ) → OpensHere d visited given c → ¬ Returns d.number visited target → HasRoom target visited → target_key d target ≡ Some key
    → hopped d target given ≡ Gave (passed d target visited key c)
gives_again d target visited given c key opens never room known =
    ap (said_of d target) (opened_again d visited given c opens) ∙ goes_on d target visited c (never_returns d.number visited target never) (room_is target visited room) (Some key) known

-- ---- what was sealed comes to the next domain

-- the key that a domain has for the last of those that were visited
sender_after : (d : DomainKnows) (visited : List ℕ) (n issuer : ℕ) → sender_key d (visited ++ n ∷ []) issuer ≡ key_of d.peers n
sender_after d [] n issuer = refl
sender_after d (v ∷ vs) n issuer =
    let long : length (vs ++ n ∷ []) ≡ length (v ∷ vs) = omega (arith, length-append vs (n ∷ [])) in
    ap (λ (k : ℕ). key_of d.peers (get_or ((v ∷ vs) ++ n ∷ []) k 0)) long ∙ ap (key_of d.peers) (get_or-append_seam (v ∷ vs) n [] 0)

presented_next : (d : DomainKnows) (visited given key : List ℕ) (c : Certificate) → OpensHere d visited given c → length visited < 3 → (n : ℕ) → n < 2 ^ 32
    → Presents (visited ++ n ∷ []) (carried (visited ++ n ∷ []) key c) c (tag_of key (text_after (front_of (visited ++ n ∷ [])) c))
presented_next d visited given key c opens room n fits =
    let s = opens.presented.spelled in
    record {
      few = omega (arith, length-append visited (n ∷ []), room);
      numbers = All-append (λ m. m < 2 ^ 32) visited (n ∷ []) opens.presented.numbers (All-cons (λ m. m < 2 ^ 32) n [] fits (All-nil (λ m. m < 2 ^ 32)));
      spelled = record { text = refl; whole_tag = length-tag_of key (text_after (front_of (visited ++ n ∷ [])) c); numbers = s.numbers; limits = s.limits };
    }

opens_next : (d next : DomainKnows) (visited given key : List ℕ) (c : Certificate) → OpensHere d visited given c → length visited < 3 → (n : ℕ) → n < 2 ^ 32 → key_of next.peers n ≡ Some key
    → OpensHere next (visited ++ n ∷ []) (carried (visited ++ n ∷ []) key c) c
opens_next d next visited given key c opens room n fits known =
    record { key = key; known = sender_after next visited n c.issuer ∙ known; presented = presented_next d visited given key c opens room n fits }

-- ---- from hop to hop

first_fits : (n : ℕ) (later : List ℕ) → AreNumbers (n ∷ later) → n < 2 ^ 32
first_fits n later fit = All-head (λ m. m < 2 ^ 32) n later fit

later_fit : (n : ℕ) (later : List ℕ) → AreNumbers (n ∷ later) → AreNumbers later
later_fit n later fit = All-tail (λ m. m < 2 ^ 32) n later fit

-- the first domain of the route opens what is given
abbrev pub IsOpened : List DomainKnows → List ℕ → List ℕ → List ℕ → Certificate → Type 0
IsOpened ds visited given [] c = Unit {0}
IsOpened ds visited given (n ∷ later) c = (d : DomainKnows) × (domain_of ds n ≡ Some d) × OpensHere d visited given c

module _ (ds : List DomainKnows) (node : ℕ) where
  -- what the first hop gives comes before what the others do
  hop_first : (n : ℕ) (later : List ℕ) (place : ℕ) (given made : List ℕ) (d : DomainKnows) (others : List (List ℕ)) → domain_of ds n ≡ Some d → hopped d (target_of node later) given ≡ Gave made
      → hops_from ds node (place + 1) later made ≡ Ok others → hops_from ds node place (n ∷ later) given ≡ Ok (made ∷ others)
  hop_first n later place given made d others is gave rest = rw (is, gave, rest) refl

  peer_apart : (visited : List ℕ) (n m number : ℕ) → number ≡ n → ¬ Contains visited n → ¬ Contains (visited ++ n ∷ []) m → ¬ Returns number visited (Peer m)
  peer_apart visited n m number same first second (here t c) = first (subst (Contains visited) same c)
  peer_apart visited n m number same first second (there p c) = second (contains_left visited n m c)
  peer_apart visited n m number same first second (itself p e) = second (contains_last visited n m (e ∙ same))

  node_apart : (visited : List ℕ) (n number : ℕ) → number ≡ n → ¬ Contains visited n → ¬ Returns number visited (Node node)
  node_apart visited n number same first (here t c) = first (subst (Contains visited) same c)

  pub forwards : (route visited given : List ℕ) (c : Certificate) (keys : List (List ℕ)) (place : ℕ) → AreNumbers route → IsOpened ds visited given route c → AreApart visited route → AreKeys ds node route keys → length visited + length route ≤ 4
      → hops_from ds node place route given ≡ Ok (forms_of visited route keys c)
  forwards [] visited given c keys place fit opened apart linked short = refl
  forwards (n ∷ later) visited given c [] place fit opened apart linked short = absurd linked
  forwards (n ∷ []) visited given c (key ∷ keys) place fit (d, is, opens) apart linked short =
      let same = one_domain ds n linked.0.0 d linked.0.1 is in
      let known : key_of d.nodes node ≡ Some key = subst (λ (k : DomainKnows). key_of k.nodes node ≡ Some key) same linked.0.2 in
      let gave = gives_again d (Node node) visited given c key opens (node_apart visited n d.number (number_is ds n d is) apart.0) tt known in
      hop_first n [] place given (passed d (Node node) visited key c) d [] is gave refl
  forwards (n ∷ m ∷ rest) visited given c (key ∷ keys) place fit (d, is, opens) apart linked short =
      let same = one_domain ds n linked.0.0.0 d linked.0.0.1 is in
      let known : key_of d.peers m ≡ Some key = subst (λ (k : DomainKnows). key_of k.peers m ≡ Some key) same linked.0.0.2 in
      let number : d.number ≡ n = number_is ds n d is in
      let room : length visited < 3 = omega (arith, short) in
      let gave = gives_again d (Peer m) visited given c key opens (peer_apart visited n m d.number number apart.0 apart.1.0) room known in
      let made : passed d (Peer m) visited key c ≡ carried (visited ++ n ∷ []) key c = ap (λ (k : ℕ). carried (visited ++ k ∷ []) key c) number in
      let next = opens_next d linked.0.1.0 visited given key c opens room n (first_fits n (m ∷ rest) fit) linked.0.1.2 in
      let others = forwards (m ∷ rest) (visited ++ n ∷ []) (carried (visited ++ n ∷ []) key c) c keys (place + 1) (later_fit n (m ∷ rest) fit) (linked.0.1.0, linked.0.1.1, next) apart.1 linked.1 (omega (arith, length-append visited (n ∷ []), short)) in
      hop_first n (m ∷ rest) place given (carried (visited ++ n ∷ []) key c) d (forms_of (visited ++ n ∷ []) (m ∷ rest) keys c) is (gave ∙ ap (λ (l : List ℕ). Gave l) made) others

  -- ---- and back: what they sealed was such a path

  pub record IsWalk (route visited : List ℕ) (c : Certificate) (forms : List (List ℕ)) : Type 0 where
    pub keys : List (List ℕ)
    pub linked : AreKeys ds node route keys
    pub are : forms ≡ forms_of visited route keys c
    pub apart : AreApart visited route

  -- the parts of a hop and of what comes after it
  pub record HasGone (n : ℕ) (later : List ℕ) (place : ℕ) (given : List ℕ) (forms : List (List ℕ)) : Type 0 where
    pub domain : DomainKnows
    pub is : domain_of ds n ≡ Some domain
    pub made : List ℕ
    pub gave : hopped domain (target_of node later) given ≡ Gave made
    pub others : List (List ℕ)
    pub rest : hops_from ds node (place + 1) later made ≡ Ok others
    pub forms_are : forms ≡ made ∷ others

  there_is : (place code : ℕ) (o : Option DomainKnows) (d : DomainKnows) → or_stop place code o ≡ Ok d → o ≡ Some d
  there_is place code (Some k) d e = cc
  there_is place code None d e = absurd cc

  given_is : (place : ℕ) (said : Said) (made : List ℕ) → given_at place said ≡ Ok made → said ≡ Gave made
  given_is place (Gave m) made e = cc
  given_is place (Refuses code) made e = absurd cc

  before_is : (made : List ℕ) (r : Result (List (List ℕ)) Along) (forms : List (List ℕ)) → with_value (before made) r ≡ Ok forms → (others : List (List ℕ)) × (r ≡ Ok others) × (forms ≡ made ∷ others)
  before_is made (Ok others) forms e = (others, refl, ok_is Along forms (made ∷ others) (sym e))
  before_is made (Err a) forms e = absurd cc

  pub gone : (n : ℕ) (later : List ℕ) (place : ℕ) (given : List ℕ) (forms : List (List ℕ)) → hops_from ds node place (n ∷ later) given ≡ Ok forms → HasGone n later place given forms
  gone n later place given forms e =
      let d = bind_ok (or_stop place 11 (domain_of ds n)) (λ d. given_at place (hopped d (target_of node later) given) >>= λ made. with_value (before made) (hops_from ds node (place + 1) later made)) forms e in
      let m = bind_ok (given_at place (hopped d.0 (target_of node later) given)) (λ made. with_value (before made) (hops_from ds node (place + 1) later made)) forms d.2 in
      let r = before_is m.0 (hops_from ds node (place + 1) later m.0) forms m.2 in
      record { domain = d.0; is = there_is place 11 (domain_of ds n) d.0 d.1; made = m.0; gave = given_is place (hopped d.0 (target_of node later) given) m.0 m.1; others = r.0; rest = r.1; forms_are = r.2 }

  not_gave : (code : ℕ) (made : List ℕ) → Refuses code ≡ Gave made → ⊥
  not_gave code made e = absurd cc

  module _ (links : LinksAgree ds) where
    -- the next domain has the key of this one, since it opened what this one sealed
    next_key : (n m : ℕ) (key : List ℕ) (next : DomainKnows) (later visited sealed given made : List ℕ) (c : Certificate) (d : DomainKnows) → HasPeer ds n m key → domain_of ds m ≡ Some next → OpensHere d visited given c → length visited < 3 → n < 2 ^ 32
        → sealed ≡ carried (visited ++ n ∷ []) key c → hopped next (target_of node later) sealed ≡ Gave made → (k : Option (List ℕ)) → key_of next.peers n ≡ k → key_of next.peers n ≡ Some key
    next_key n m key next later visited sealed given made c d has is opens room below text gave None known =
        let p = subst (λ (l : List ℕ). Presents (visited ++ n ∷ []) l c (tag_of key (text_after (front_of (visited ++ n ∷ [])) c))) (sym text) (presented_next d visited given key c opens room n below) in
        let refused = nobody_known next (visited ++ n ∷ []) sealed c (tag_of key (text_after (front_of (visited ++ n ∷ [])) c)) p (sender_after next visited n c.issuer ∙ known) in
        absurd (not_gave _ made (sym (ap (said_of next (target_of node later)) refused) ∙ gave))
    next_key n m key next later visited sealed given made c d has is opens room below text gave (Some k) known =
        let agree : key ≡ k = links n m key k has (next, is, known) in
        known ∙ ap (λ (l : List ℕ). Some l) (sym agree)

    pub backwards : (route visited given : List ℕ) (c : Certificate) (place : ℕ) (forms : List (List ℕ)) → AreNumbers route → IsOpened ds visited given route c → hops_from ds node place route given ≡ Ok forms → IsWalk route visited c forms
    backwards [] visited given c place forms fit opened e = record { keys = []; linked = tt; are = ok_is Along forms [] (sym e); apart = tt }
    backwards (n ∷ []) visited given c place forms fit (d, is, opens) e =
        let g = gone n [] place given forms e in
        let same = one_domain ds n g.domain d g.is is in
        let gave : hopped d (Node node) given ≡ Gave g.made = subst (λ (k : DomainKnows). hopped k (Node node) given ≡ Gave g.made) same g.gave in
        let p = hops_give d (Node node) visited given c g.made opens gave in
        let none : g.others ≡ [] = ok_is Along g.others [] (sym g.rest) in
        let number : d.number ≡ n = number_is ds n d is in
        record {
          keys = p.key ∷ [];
          linked = ((d, is, p.known), tt);
          are = g.forms_are ∙ ap (λ (l : List (List ℕ)). g.made ∷ l) none ∙ ap (λ (l : List ℕ). l ∷ []) p.is;
          apart = ((λ c. p.never (here (Node node) (subst (Contains visited) (sym number) c))), tt);
        }
    backwards (n ∷ m ∷ rest) visited given c place forms fit (d, is, opens) e =
        let g = gone n (m ∷ rest) place given forms e in
        let same = one_domain ds n g.domain d g.is is in
        let gave : hopped d (Peer m) given ≡ Gave g.made = subst (λ (k : DomainKnows). hopped k (Peer m) given ≡ Gave g.made) same g.gave in
        let p = hops_give d (Peer m) visited given c g.made opens gave in
        let number : d.number ≡ n = number_is ds n d is in
        let below : n < 2 ^ 32 = first_fits n (m ∷ rest) fit in
        let text : g.made ≡ carried (visited ++ n ∷ []) p.key c = p.is ∙ ap (λ (k : ℕ). carried (visited ++ k ∷ []) p.key c) number in
        let h = gone m rest (place + 1) g.made g.others g.rest in
        let has : HasPeer ds n m p.key = (d, is, p.known) in
        let known = next_key n m p.key h.domain rest visited g.made given h.made c d has h.is opens p.room below text h.gave (key_of h.domain.peers n) refl in
        let next = subst (λ (l : List ℕ). OpensHere h.domain (visited ++ n ∷ []) l c) (sym text) (opens_next d h.domain visited given p.key c opens p.room n below known) in
        let w = backwards (m ∷ rest) (visited ++ n ∷ []) g.made c (place + 1) g.others (later_fit n (m ∷ rest) fit) (h.domain, h.is, next) g.rest in
        record {
          keys = p.key ∷ w.keys;
          linked = ((has, (h.domain, h.is, known)), w.linked);
          are = g.forms_are ∙ ap (λ (l : List ℕ). l ∷ g.others) text ∙ ap (λ (l : List (List ℕ)). carried (visited ++ n ∷ []) p.key c ∷ l) w.are;
          apart = ((λ c. p.never (here (Peer m) (subst (Contains visited) (sym number) c))), w.apart);
        }
