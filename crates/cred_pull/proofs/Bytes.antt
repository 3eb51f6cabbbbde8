-- What is appended is made of bytes, opens again, and fits a request.
use Rattle.std.proofs.Common.{ℕ, ◌-◌, ◌≤◌, List, length, All, refl, sym, subst, arith, length-append, length-take}
use Rattle.std.proofs.lemmas.List.{length-map}
use Rattle.std.proofs.lemmas.List.Elements.{All-nil, All-cons, All-append}
use Rattle.sealed_cert.specs.Seals.{sealed, Opens}
use Rattle.sealed_cert.proofs.SealedBytes.{relayed_bytes}
use Rattle.sealed_cert.proofs.Sizes.{short_sealed}
use Rattle.stmt_codec.specs.Certificates.{Certificate, IsWithinLimits, HasBodySpelling}
use Rattle.relay_core.specs.Credentials.{LinkCall, Comes, by_node, by_relay}
use Rattle.taos_wire.specs.Request.{Request, FitsRequest, IsCertText}
use Rattle.cred_pull.specs.declared.pulling.Pulled.{Pulled}
use Rattle.cred_pull.specs.Fetching.{Texts, Pull}
use Rattle.cred_pull.specs.Pulled.{comes, refused, too_long, ArePulled, none_more, one_more}
use Rattle.cred_pull.specs.Pulling.{forms_of, within, with_pulled, Ends, ready, pull_failed, relay_failed, unfetched, interrupted}

-- a certificate that has a spelling, within the limits
pub record IsSpelled (c : Certificate) : Type 0 where
  pub numbers : HasBodySpelling c
  pub limits : IsWithinLimits c

comes_spelled : (key text : List ℕ) (calls : List LinkCall) (c : Certificate) → Comes key text calls c → IsSpelled c
comes_spelled key text calls c (by_node opens) = record { numbers = opens.numbers; limits = opens.limits }
comes_spelled key text calls c (by_relay is) = record { numbers = is.opens.numbers; limits = is.opens.limits }

-- each that is appended opens under the key
abbrev OpensAgain : List ℕ → Certificate → Type 0
OpensAgain key c = Opens key (sealed 2 key c) c

pub pulled_open : (key : List ℕ) (texts : Texts) (calls : List LinkCall) (certs : List Certificate) → ArePulled key texts calls certs → All (OpensAgain key) certs
pulled_open key texts calls certs none_more = All-nil (OpensAgain key)
pulled_open key texts calls certs (one_more (comes {calls = by} {c = c} short is) behind) =
    let s = comes_spelled key _ by c is in
    All-cons (OpensAgain key) c _ (record { text = refl; numbers = s.numbers; limits = s.limits }) (pulled_open key _ _ _ behind)
pulled_open key texts calls certs (one_more (refused short is) behind) = pulled_open key _ _ _ behind
pulled_open key texts calls certs (one_more (too_long long) behind) = pulled_open key _ _ _ behind

-- ---- what is appended fits a request

form_fits : (key : List ℕ) (c : Certificate) → IsSpelled c → IsCertText (sealed 2 key c)
form_fits key c is = (omega (arith, short_sealed 2 key c is.limits), relayed_bytes key c)

forms_fit : (key : List ℕ) (texts : Texts) (calls : List LinkCall) (certs : List Certificate) → ArePulled key texts calls certs → All IsCertText (forms_of key certs)
forms_fit key texts calls certs none_more = All-nil IsCertText
forms_fit key texts calls certs (one_more (comes {calls = by} {c = c} short is) behind) =
    All-cons IsCertText (sealed 2 key c) _ (form_fits key c (comes_spelled key _ by c is)) (forms_fit key _ _ _ behind)
forms_fit key texts calls certs (one_more (refused short is) behind) = forms_fit key _ _ _ behind
forms_fit key texts calls certs (one_more (too_long long) behind) = forms_fit key _ _ _ behind

few_pulled : (key : List ℕ) (texts : Texts) (calls : List LinkCall) (certs : List Certificate) → ArePulled key texts calls certs → length certs ≤ length texts
few_pulled key texts calls certs none_more = omega arith
few_pulled key texts calls certs (one_more (comes short is) behind) = omega (arith, few_pulled key _ _ _ behind)
few_pulled key texts calls certs (one_more (refused short is) behind) = omega (arith, few_pulled key _ _ _ behind)
few_pulled key texts calls certs (one_more (too_long long) behind) = omega (arith, few_pulled key _ _ _ behind)

-- a request with what was pulled is within the limits of requests
pub pulled_fits : (key : List ℕ) (r : Request) (fetched : Texts) (calls : List LinkCall) (certs : List Certificate) → FitsRequest r → ArePulled key (within r.certs fetched) calls certs → FitsRequest (with_pulled key r certs)
pulled_fits key r fetched calls certs fits pulled = record {
  channel = fits.channel;
  seq = fits.seq;
  quoted = fits.quoted;
  object = fits.object;
  op = fits.op;
  few_certs = omega (arith, fits.few_certs, few_pulled key _ calls certs pulled, length-take (16 - length r.certs) fetched, length-map certs (sealed 2 key), length-append r.certs (forms_of key certs));
  certs = All-append IsCertText r.certs (forms_of key certs) fits.certs (forms_fit key _ calls certs pulled);
}

-- whatever came of it, the request is within the limits
pub ends_fit : (key : List ℕ) (old new : Request) (pull : Pull) (calls : List LinkCall) (result : Pulled) → FitsRequest old → Ends key old new pull calls result → FitsRequest new
ends_fit key old new pull calls result fits (ready {fetched = fetched} {certs = certs} pulled is) = subst FitsRequest (sym is) (pulled_fits key old fetched calls certs fits pulled)
ends_fit key old new pull calls result fits (pull_failed is) = subst FitsRequest (sym is) fits
ends_fit key old new pull calls result fits (relay_failed at is) = subst FitsRequest (sym is) fits
ends_fit key old new pull calls result fits (unfetched is) = subst FitsRequest (sym is) fits
ends_fit key old new pull calls result fits (interrupted at is) = subst FitsRequest (sym is) fits

-- ---- what is appended is short enough to be sent to a relay

abbrev pub IsSendable : List ℕ → Type 0
IsSendable t = length t ≤ 65531

forms_short : (key : List ℕ) (texts : Texts) (calls : List LinkCall) (certs : List Certificate) → ArePulled key texts calls certs → All IsSendable (forms_of key certs)
forms_short key texts calls certs none_more = All-nil IsSendable
forms_short key texts calls certs (one_more (comes {calls = by} {c = c} short is) behind) =
    let s = comes_spelled key _ by c is in
    All-cons IsSendable (sealed 2 key c) _ (omega (arith, short_sealed 2 key c s.limits)) (forms_short key _ _ _ behind)
forms_short key texts calls certs (one_more (refused short is) behind) = forms_short key _ _ _ behind
forms_short key texts calls certs (one_more (too_long long) behind) = forms_short key _ _ _ behind

abbrev AllSendable : Request → Type 0
AllSendable r = All IsSendable r.certs

pub ends_short : (key : List ℕ) (old new : Request) (pull : Pull) (calls : List LinkCall) (result : Pulled) → Ends key old new pull calls result → All IsSendable old.certs → All IsSendable new.certs
ends_short key old new pull calls result (ready {certs = certs} pulled is) were = subst AllSendable (sym is) (All-append IsSendable old.certs (forms_of key certs) were (forms_short key _ calls certs pulled))
ends_short key old new pull calls result (pull_failed is) were = subst AllSendable (sym is) were
ends_short key old new pull calls result (relay_failed at is) were = subst AllSendable (sym is) were
ends_short key old new pull calls result (unfetched is) were = subst AllSendable (sym is) were
ends_short key old new pull calls result (interrupted at is) were = subst AllSendable (sym is) were
