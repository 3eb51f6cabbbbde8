-- One fetched certificate more, or the first at which the pull stops. The key and the node are those of who opens throughout.
use Rattle.std.proofs.Common.{ℕ, ◌+◌, List, map, take, get_or, refl, sym, ap, subst, ◌∙◌, arith}
use Rattle.std.specs.Prelude.{option_map, option_to_list}
use Rattle.std.proofs.lemmas.List.{length-map, take_all}
use Rattle.std.proofs.lemmas.Result.{err_from_is_err_and}
use Rattle.relay_core.specs.Credentials.{link_use}
use Rattle.taos_wire.specs.View.{text_of}
use Rattle.cred_pull.specs.Pulling.{OneIsPulled, OneIsLeftOff, AllArePulled, used}
use Rattle.cred_pull.proofs.Pulls.{nothing_pulled, first_left, has_place, one_more_pulled, remains, unpushed}
use Rattle.cred_pull.proofs.pulling.forms_of.Goals as goal

pub loop-place-init : goal.loop-place-init
loop-place-init g c =
    let who = g.O.Opens.shown c.args.by.now in
    rw c.new-forms.ensures.items (record { pulled = nothing_pulled who.key who.node who.link; rest = record { key = refl; node = refl; lent = refl } })

pub form_of-requires : goal.form_of-requires
form_of-requires g c = record { one_key = c.loop-place.invariant.rest.key ∙ c.requires.one_key }

pub returns-in-Err-clause-left_off : goal.returns-in-Err-clause-left_off
returns-in-Err-clause-left_off g c =
    let key = c.args.key.now in
    let who = g.O.Opens.shown c.args.by.now in
    let middle = g.O.Opens.shown c.loop-place.by in
    let now = g.O.Opens.shown c.form_of.new.by in
    let texts = c.args.texts.now in
    let place = c.loop-place.place in
    let d = c.index-texts-place.result in
    let text = ap text_of (sym c.index-texts-place.is) ∙ sym c.deref.ensures.value in
    let came = rw c.requires.one_key at c.loop-place.invariant.pulled in
    let why = subst (λ (t : List ℕ). OneIsLeftOff (used middle now) t c.in-Err.why) (sym text) c.in-Err.ensures.left_off in
    let left = subst (λ (n : ℕ). OneIsLeftOff (link_use n middle.link now.link) (text_of (get_or texts place d)) c.in-Err.why) c.loop-place.invariant.rest.node why in
    rw c.stop_at.ensures (first_left key texts place d c.loop-place-test.true who.node who.link middle.link now.link (map text_of c.loop-place.forms.items) came c.in-Err.why left)

pub returns-in-Err-clause-place : goal.returns-in-Err-clause-place
returns-in-Err-clause-place g c =
    let texts = c.args.texts.now in
    rw c.stop_at.ensures (has_place (map text_of texts) c.loop-place.place c.in-Err.why (omega (arith, c.loop-place-test.true, length-map texts text_of)))

pub returns-in-Err-clause-rest : goal.returns-in-Err-clause-rest
returns-in-Err-clause-rest g c = remains _ _ _ c.loop-place.invariant.rest c.form_of.ensures.rest

pub returns-in_err-add_form-in-Ok-clause-left_off : goal.returns-in_err-add_form-in-Ok-clause-left_off
returns-in_err-add_form-in-Ok-clause-left_off g c =
    let p = err_from_is_err_and c.from_residual.result c.from_residual.ensures.1 in
    let key = c.args.key.now in
    let who = g.O.Opens.shown c.args.by.now in
    let middle = g.O.Opens.shown c.loop-place.by in
    let now = g.O.Opens.shown c.form_of.new.by in
    let texts = c.args.texts.now in
    let place = c.loop-place.place in
    let d = c.index-texts-place.result in
    let text = ap text_of (sym c.index-texts-place.is) ∙ sym c.deref.ensures.value in
    let came = rw c.requires.one_key at c.loop-place.invariant.pulled in
    let own = option_to_list (option_map text_of c.in-Ok.form) in
    let one = subst (λ (t : List ℕ). OneIsPulled key (used middle now) t own) (sym text) c.in-Ok.ensures.pulled in
    let here = subst (λ (n : ℕ). OneIsPulled key (link_use n middle.link now.link) (text_of (get_or texts place d)) own) c.loop-place.invariant.rest.node one in
    rw (p.1, p.2) (unpushed key texts place d c.loop-place-test.true who.node who.link middle.link now.link (map text_of c.loop-place.forms.items) came own here)

pub returns-in_err-add_form-in-Ok-clause-rest : goal.returns-in_err-add_form-in-Ok-clause-rest
returns-in_err-add_form-in-Ok-clause-rest g c = remains _ _ _ c.loop-place.invariant.rest c.form_of.ensures.rest

pub loop-place-preserved : goal.loop-place-preserved
loop-place-preserved g c =
    let who = g.O.Opens.shown c.args.by.now in
    let middle = g.O.Opens.shown c.loop-place.by in
    let now = g.O.Opens.shown c.form_of.new.by in
    let key = who.key in
    let texts = c.args.texts.now in
    let place = c.loop-place.place in
    let d = c.index-texts-place.result in
    let text = ap text_of (sym c.index-texts-place.is) ∙ sym c.deref.ensures.value in
    let own = option_to_list (option_map text_of c.in-Ok.form) in
    let one = subst (λ (k : List ℕ). OneIsPulled k (used middle now) (text_of (get_or texts place d)) own) (sym c.requires.one_key)
    (subst (λ (t : List ℕ). OneIsPulled c.args.key.now (used middle now) t own) (sym text) c.in-Ok.ensures.pulled) in
    let here = subst (λ (n : ℕ). OneIsPulled key (link_use n middle.link now.link) (text_of (get_or texts place d)) own) c.loop-place.invariant.rest.node one in
    record {
      pulled = subst (AllArePulled key (used who now) (map text_of (take (place + 1) texts))) (sym c.in_ok-add_form-in-Ok.ensures)
          (one_more_pulled key texts place d c.loop-place-test.true who.node who.link middle.link now.link (map text_of c.loop-place.forms.items) c.loop-place.invariant.pulled own here);
      rest = remains _ _ _ c.loop-place.invariant.rest c.form_of.ensures.rest;
    }

pub returns-clause-pulled : goal.returns-clause-pulled
returns-clause-pulled g c =
    let texts = c.args.texts.now in
    rw (take_all c.loop-place.place texts (omega (arith, c.loop-place-test.false))) at (rw c.requires.one_key at c.loop-place.invariant.pulled)
