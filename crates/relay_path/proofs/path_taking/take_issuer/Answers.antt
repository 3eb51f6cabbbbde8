use Rattle.std.proofs.Common.{sym, refl}
use Rattle.relay_path.specs.declared.limits.TheConstants.{MAX_ISSUERS}
use Rattle.relay_path.specs.Domains.{DomainKnows}
use Rattle.relay_path.proofs.Taken.{at_no_place, at_place, found_in, issuers_hold, issuers_put, key_taken}
use Rattle.relay_path.proofs.path_taking.take_issuer.Goals as goal

pub returns-in_default : goal.returns-in_default
returns-in_default c = record {
  takes = λ above all.
      let drafts = c.args.drafts.now.items in
      let none = at_no_place drafts above c.in_ok-number.number all (found_in drafts c.deref.result.now c.in_ok-number.number c.place_of.result _ c.deref.ensures.value c.place_of.ensures c.in_default.is) in
      rw (sym c.in_ok-number.ensures, none) refl;
}

pub returns : goal.returns
returns c = record {
  takes = λ above all.
      let drafts = c.args.drafts.now.items in
      let n = c.in_ok-number.number in
      let place = c.in-Some.place in
      let p = at_place drafts above n place all (found_in drafts c.deref.result.now n c.place_of.result _ c.deref.ensures.value c.place_of.ensures c.in-Some.is) in
      let took = key_taken MAX_ISSUERS (λ x. x.issuers) (λ d. d.issuers) (λ x ks. record x { issuers = ks }) (λ d es. record d { issuers = es }) issuers_hold issuers_put drafts _ above n place p c.index_mut.result.now c.add_key.new.table c.index_mut.ensures.value refl
      c.in_ok-number.issuer c.in_ok-number.key c.add_key.result c.add_key.ensures.takes c.add_key.ensures.room in
      rw (sym c.in_ok-number.ensures, p.is) took;
}
