-- Of the cases of a hop one holds, and that is what is said.
use Rattle.std.proofs.Common.{◌≡◌, ◌≢◌, ℕ, Bool, true, false, cond, List, [], ◌∷◌, Option, Some, None, Result, Ok, Err, refl, sym, ap, subst, ◌∙◌, inl, inr, arith}
use Rattle.byte_fields.proofs.FieldLaws.{IsBytes}
use Rattle.stmt_codec.specs.Certificates.{Certificate}
use Rattle.frame_link.specs.Relay.{Said, Gave, Refuses}
use Rattle.relay_core.specs.Resealing.{IsRelayed}
use Rattle.relay_path.specs.declared.answer.HopAnswer.{HopAnswer}
use Rattle.relay_path.specs.declared.answer.HopAnswer.TheVariants as hops
use Rattle.relay_path.specs.declared.answer.Target.{Target}
use Rattle.relay_path.specs.declared.answer.Target.TheVariants.{Node, Peer}
use Rattle.relay_path.specs.declared.opening.HopFault.{HopFault}
use Rattle.relay_path.specs.declared.opening.HopFault.TheVariants.{Refused, NoMemory}
use Rattle.relay_path.specs.Carrying.{Presents}
use Rattle.relay_path.specs.Domains.{DomainKnows}
use Rattle.relay_path.specs.Hopping.{HasHopCode, HasRoom, IsHop, IsHopCode, IsHopSaid, OpensHere, passed, Returns, target_key, unknown_sender, unknown_target}
use Rattle.relay_path.specs.Hopping.{is_of_wrong_kind, is_malformed, is_of_nobody_known, is_badly_sealed, is_a_loop, goes_too_far, is_for_nobody_known, is_passed}
use Rattle.relay_path.specs.Opening.{has_room, hopped, opened_here, returns, said_of, sealed_for}
use Rattle.relay_path.proofs.Opened.{Unopened, of_relay, of_no_form, of_nobody, of_other, badly_sealed, nobody_known, opened_again, opened_refused, opened_takes, relayed_unopened}
use Rattle.relay_path.proofs.Visits.{is_room, it_returns, never_returns, no_return, no_room, returns_is, room_is, room_is_none}

module _ (d : DomainKnows) (target : Target) where
  -- what is said of what was opened, by its tests
  looped : (visited : List ℕ) (c : Certificate) → returns d.number visited target ≡ true → said_of d target (Ok (visited, c)) ≡ Refuses 8
  looped visited c e = rw e refl

  too_far : (visited : List ℕ) (c : Certificate) → returns d.number visited target ≡ false → has_room target visited ≡ false → said_of d target (Ok (visited, c)) ≡ Refuses 9
  too_far visited c e f = rw (e, f) refl

  pub goes_on : (visited : List ℕ) (c : Certificate) → returns d.number visited target ≡ false → has_room target visited ≡ true → (key : Option (List ℕ)) → target_key d target ≡ key
      → said_of d target (Ok (visited, c)) ≡ sealed_for d target visited c key
  goes_on visited c e f key is = rw (e, f, is) refl

  module _ (bytes : List ℕ) where
    -- ---- some case holds

    with_key : (visited : List ℕ) (c : Certificate) → OpensHere d visited bytes c → returns d.number visited target ≡ false → has_room target visited ≡ true → (key : Option (List ℕ)) → target_key d target ≡ key
        → IsHop d target bytes (sealed_for d target visited c key)
    with_key visited c opens never room None is = is_for_nobody_known visited c opens (no_return d.number visited target never) (is_room target visited room) is
    with_key visited c opens never room (Some key) is = is_passed visited c key opens (no_return d.number visited target never) (is_room target visited room) is

    with_room : (visited : List ℕ) (c : Certificate) → OpensHere d visited bytes c → returns d.number visited target ≡ false → (room : Bool) → has_room target visited ≡ room
        → IsHop d target bytes (said_of d target (Ok (visited, c)))
    with_room visited c opens never true room =
        subst (IsHop d target bytes) (sym (goes_on visited c never room (target_key d target) refl)) (with_key visited c opens never room (target_key d target) refl)
    with_room visited c opens never false room = subst (IsHop d target bytes) (sym (too_far visited c never room)) (goes_too_far visited c opens (no_return d.number visited target never) (no_room target visited room))

    with_return : (visited : List ℕ) (c : Certificate) → OpensHere d visited bytes c → (again : Bool) → returns d.number visited target ≡ again → IsHop d target bytes (said_of d target (Ok (visited, c)))
    with_return visited c opens true again = subst (IsHop d target bytes) (sym (looped visited c again)) (is_a_loop visited c opens (it_returns d.number visited target again))
    with_return visited c opens false again = with_room visited c opens again (has_room target visited) refl

    refused_case : (f : HopFault) → Unopened d bytes f → IsHop d target bytes (said_of d target (Err f))
    refused_case f (of_relay is code) = subst (λ (g : HopFault). IsHop d target bytes (said_of d target (Err g))) (sym code) (is_of_wrong_kind is)
    refused_case f (of_no_form other none (inl code)) = subst (λ (g : HopFault). IsHop d target bytes (said_of d target (Err g))) (sym code) (is_malformed other none)
    refused_case f (of_no_form other none (inr code)) = subst (λ (g : HopFault). IsHop d target bytes (said_of d target (Err g))) (sym code) (is_malformed other none)
    refused_case f (of_nobody visited c tag is none code) = subst (λ (g : HopFault). IsHop d target bytes (said_of d target (Err g))) (sym code) (is_of_nobody_known visited c tag is none)
    refused_case f (of_other visited c tag key is known other code) = subst (λ (g : HopFault). IsHop d target bytes (said_of d target (Err g))) (sym code) (is_badly_sealed visited c tag key is known other)

    case_of : IsBytes bytes → (r : Result (List ℕ × Certificate) HopFault) → opened_here d bytes ≡ r → IsHop d target bytes (said_of d target r)
    case_of fits (Ok x) e = with_return x.0 x.1 (opened_takes d bytes x fits e) (returns d.number x.0 target) refl
    case_of fits (Err f) e = refused_case f (opened_refused d bytes f fits e)

    pub some_case : IsBytes bytes → IsHop d target bytes (hopped d target bytes)
    some_case fits = case_of fits (opened_here d bytes) refl

    -- ---- and no other

    pub said_at : (r : Result (List ℕ × Certificate) HopFault) (said : Said) → opened_here d bytes ≡ r → said_of d target r ≡ said → said ≡ hopped d target bytes
    said_at r said e is = sym is ∙ ap (said_of d target) (sym e)

    form_only : ¬ IsRelayed bytes → ((visited : List ℕ) (c : Certificate) (tag : List ℕ) → ¬ Presents visited bytes c tag) → (f : HopFault) → Unopened d bytes f → said_of d target (Err f) ≡ Refuses 1
    form_only other none f (of_relay is code) = absurd (other is)
    form_only other none f (of_no_form o n (inl code)) = ap (λ (g : HopFault). said_of d target (Err g)) code
    form_only other none f (of_no_form o n (inr code)) = ap (λ (g : HopFault). said_of d target (Err g)) code
    form_only other none f (of_nobody visited c tag is k code) = absurd (none visited c tag is)
    form_only other none f (of_other visited c tag key is k o code) = absurd (none visited c tag is)

    malformed_only : IsBytes bytes → ¬ IsRelayed bytes → ((visited : List ℕ) (c : Certificate) (tag : List ℕ) → ¬ Presents visited bytes c tag) → (r : Result (List ℕ × Certificate) HopFault) → opened_here d bytes ≡ r
        → said_of d target r ≡ Refuses 1
    malformed_only fits other none (Ok x) e = let o = opened_takes d bytes x fits e in absurd (none x.0 x.1 _ o.presented)
    malformed_only fits other none (Err f) e = form_only other none f (opened_refused d bytes f fits e)

    pub that_case : (said : Said) → IsBytes bytes → IsHop d target bytes said → said ≡ hopped d target bytes
    that_case said fits (is_of_wrong_kind is) = said_at (Err (Refused 4)) (Refuses 4) (relayed_unopened d bytes is) refl
    that_case said fits (is_malformed other none) = said_at (opened_here d bytes) (Refuses 1) refl (malformed_only fits other none (opened_here d bytes) refl)
    that_case said fits (is_of_nobody_known visited c tag is none) = said_at (Err (Refused (unknown_sender visited))) (Refuses (unknown_sender visited)) (nobody_known d visited bytes c tag is none) refl
    that_case said fits (is_badly_sealed visited c tag key is known other) = said_at (Err (Refused 3)) (Refuses 3) (badly_sealed d visited bytes c tag key is known other) refl
    that_case said fits (is_a_loop visited c opens again) = said_at (Ok (visited, c)) (Refuses 8) (opened_again d visited bytes c opens) (looped visited c (returns_is d.number visited target again))
    that_case said fits (goes_too_far visited c opens never none) =
        said_at (Ok (visited, c)) (Refuses 9) (opened_again d visited bytes c opens) (too_far visited c (never_returns d.number visited target never) (room_is_none target visited none))
    that_case said fits (is_for_nobody_known visited c opens never room none) =
        said_at (Ok (visited, c)) (Refuses (unknown_target target)) (opened_again d visited bytes c opens) (goes_on visited c (never_returns d.number visited target never) (room_is target visited room) None none)
    that_case said fits (is_passed visited c key opens never room known) =
        said_at (Ok (visited, c)) (Gave (passed d target visited key c)) (opened_again d visited bytes c opens) (goes_on visited c (never_returns d.number visited target never) (room_is target visited room) (Some key) known)

    -- ---- the codes

    sender_code : (visited : List ℕ) → IsHopCode (unknown_sender visited)
    sender_code [] = (omega arith, omega arith, λ e. omega (arith, e))
    sender_code (v ∷ vs) = (omega arith, omega arith, λ e. omega (arith, e))

    target_code : (t : Target) → IsHopCode (unknown_target t)
    target_code (Node node) = (omega arith, omega arith, λ e. omega (arith, e))
    target_code (Peer peer) = (omega arith, omega arith, λ e. omega (arith, e))

    abbrev IsCoded : Said → Type 0
    IsCoded (Gave made) = Unit {0}
    IsCoded (Refuses code) = IsHopCode code

    coded : (said : Said) → IsHop d target bytes said → IsCoded said
    coded said (is_of_wrong_kind is) = (omega arith, omega arith, λ e. omega (arith, e))
    coded said (is_malformed other none) = (omega arith, omega arith, λ e. omega (arith, e))
    coded said (is_of_nobody_known visited c tag is none) = sender_code visited
    coded said (is_badly_sealed visited c tag key is known other) = (omega arith, omega arith, λ e. omega (arith, e))
    coded said (is_a_loop visited c opens again) = (omega arith, omega arith, λ e. omega (arith, e))
    coded said (goes_too_far visited c opens never none) = (omega arith, omega arith, λ e. omega (arith, e))
    coded said (is_for_nobody_known visited c opens never room none) = target_code target
    coded said (is_passed visited c key opens never room known) = tt

    answer_coded : (said : Said) (answer : HopAnswer) (out : List ℕ) → IsCoded said → IsHopSaid said answer out → HasHopCode answer
    answer_coded said hops.Passed out fits is = tt
    answer_coded said hops.NoMemory out fits is = tt
    answer_coded (Gave made) (hops.Refused code) out fits is = absurd is
    answer_coded (Refuses c) (hops.Refused code) out fits is = subst IsHopCode (sym is.0) fits

    pub has_code : (answer : HopAnswer) (out : List ℕ) → IsBytes bytes → IsHopSaid (hopped d target bytes) answer out → HasHopCode answer
    has_code answer out fits is = answer_coded (hopped d target bytes) answer out (coded (hopped d target bytes) (some_case fits)) is
