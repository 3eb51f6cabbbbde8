use Rattle.std.proofs.Common.{refl}
use Rattle.relay_path.specs.declared.limits.TheConstants.{MAX_LINKS}
use Rattle.relay_path.proofs.Taken.{at_no_place, at_place, found_in, peers_hold, peers_put, key_taken}
use Rattle.relay_path.proofs.path_taking.add_peer.Goals as goal

pub returns-in_default : goal.returns-in_default
returns-in_default c = record {
  takes = λ above all.
      let drafts = c.args.drafts.now.items in
      let none = at_no_place drafts above c.args.number all (found_in drafts c.deref.result.now c.args.number c.place_of.result _ c.deref.ensures.value c.place_of.ensures c.in_default.is) in
      rw none refl;
}

pub returns : goal.returns
returns c = record {
  takes = λ above all.
      let drafts = c.args.drafts.now.items in
      let n = c.args.number in
      let place = c.in-Some.place in
      let p = at_place drafts above n place all (found_in drafts c.deref.result.now n c.place_of.result _ c.deref.ensures.value c.place_of.ensures c.in-Some.is) in
      let took = key_taken MAX_LINKS (λ x. x.peers) (λ d. d.peers) (λ x ks. record x { peers = ks }) (λ d es. record d { peers = es }) peers_hold peers_put drafts _ above n place p c.index_mut.result.now c.add_key.new.table c.index_mut.ensures.value refl
      c.args.peer c.args.key c.add_key.result c.add_key.ensures.takes c.add_key.ensures.room in
      rw p.is took;
}
