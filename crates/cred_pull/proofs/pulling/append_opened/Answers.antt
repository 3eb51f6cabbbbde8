-- What came of those that were looked at is what comes of the request.
use Rattle.std.proofs.Common.{◌≡◌, ◌+◌, ◌-◌, min, ℕ, map, take, length, length-take, refl, sym, ap, subst, ◌∙◌, arith}
use Rattle.std.proofs.lemmas.List.{length-map, map-append}
use Rattle.taos_wire.specs.View.{request, text_of}
use Rattle.cred_pull.proofs.Bytes.{ends_fit, ends_short}
use Rattle.cred_pull.proofs.Pulls.{looked_at, stopped_at, stopped_lacking, taken, unroomed}
use Rattle.cred_pull.proofs.pulling.append_opened.Goals as goal

pub returns-in-Ok-append-clause-takes : goal.returns-in-Ok-append-clause-takes
returns-in-Ok-append-clause-takes g c =
    let len : c.len-presented.result ≡ length c.args.asked.now.certs.items = omega (arith, c.len-presented.ensures, c.args.asked.now.certs.ok.0) in
    let most = subst (λ (n : ℕ). c.min-most.result ≡ min (16 - n) (length c.args.fetched.now)) len c.min-most.ensures in
    let seen = looked_at c.args.asked.now.certs.items c.args.fetched.now c.min-most.result most in
    taken c.args.key.now (g.O.Opens.shown c.args.by.now).node (g.O.Opens.shown c.args.by.now).link (g.O.Opens.shown c.forms_of.new.by).link (map text_of c.args.fetched.now) (request c.args.asked.now) _
    _ (map text_of c.in-Ok.forms.items) seen c.in-Ok.ensures.pulled
    (ap (λ l. record (request c.args.asked.now) { certs = l }) (ap (map text_of) c.in-Ok-append.ensures.items ∙ map-append text_of c.args.asked.now.certs.items c.in-Ok.forms.items))

pub returns-in-Ok-clause-takes : goal.returns-in-Ok-clause-takes
returns-in-Ok-clause-takes g c =
    let len : c.len-presented.result ≡ length c.args.asked.now.certs.items = omega (arith, c.len-presented.ensures, c.args.asked.now.certs.ok.0) in
    let most = subst (λ (n : ℕ). c.min-most.result ≡ min (16 - n) (length c.args.fetched.now)) len c.min-most.ensures in
    let seen = looked_at c.args.asked.now.certs.items c.args.fetched.now c.min-most.result most in
    unroomed c.args.key.now (g.O.Opens.shown c.args.by.now).node (g.O.Opens.shown c.args.by.now).link (g.O.Opens.shown c.forms_of.new.by).link (map text_of c.args.fetched.now) (request c.args.asked.now) _
    _ (map text_of c.in-Ok.forms.items) seen c.in-Ok.ensures.pulled
    (ap (λ l. record (request c.args.asked.now) { certs = map text_of l }) c.in-Err.ensures.items)

-- a place among those that fit behind the presented ones
pub index_of-requires : goal.index_of-requires
index_of-requires g c =
    let place = rw c.in-Err-LinkFailed.field-0-is at c.in-Err-LinkFailed.ensures.place in
    omega (arith, place, length-map (take c.min-most.result c.args.fetched.now) text_of, length-take c.min-most.result c.args.fetched.now, c.min-most.ensures, c.len-presented.ensures, c.args.asked.now.certs.ok.0)

pub returns-in-Err-LinkFailed-clause-takes : goal.returns-in-Err-LinkFailed-clause-takes
returns-in-Err-LinkFailed-clause-takes g c =
    let len : c.len-presented.result ≡ length c.args.asked.now.certs.items = omega (arith, c.len-presented.ensures, c.args.asked.now.certs.ok.0) in
    let most = subst (λ (n : ℕ). c.min-most.result ≡ min (16 - n) (length c.args.fetched.now)) len c.min-most.ensures in
    let seen = looked_at c.args.asked.now.certs.items c.args.fetched.now c.min-most.result most in
    let stops = rw c.in-Err-LinkFailed.field-0-is at c.in-Err-LinkFailed.ensures.left_off in
    let index = c.index_of.ensures ∙ ap (λ (n : ℕ). n + c.in-Err-LinkFailed.place) (len ∙ sym (length-map c.args.asked.now.certs.items text_of)) in
    rw index (stopped_at c.args.key.now (g.O.Opens.shown c.args.by.now).node (g.O.Opens.shown c.args.by.now).link (g.O.Opens.shown c.forms_of.new.by).link (map text_of c.args.fetched.now) (request c.args.asked.now) _
    _ c.in-Err-LinkFailed.place seen stops refl)

pub returns-clause-takes : goal.returns-clause-takes
returns-clause-takes g c =
    let len : c.len-presented.result ≡ length c.args.asked.now.certs.items = omega (arith, c.len-presented.ensures, c.args.asked.now.certs.ok.0) in
    let most = subst (λ (n : ℕ). c.min-most.result ≡ min (16 - n) (length c.args.fetched.now)) len c.min-most.ensures in
    let seen = looked_at c.args.asked.now.certs.items c.args.fetched.now c.min-most.result most in
    let stops = rw c.in-Err-NoMemory.field-0-is at c.in-Err-NoMemory.ensures.left_off in
    stopped_lacking c.args.key.now (g.O.Opens.shown c.args.by.now).node (g.O.Opens.shown c.args.by.now).link (g.O.Opens.shown c.forms_of.new.by).link (map text_of c.args.fetched.now) (request c.args.asked.now) _
    _ seen stops refl

-- ---- the request stays within the limits, whatever came of it

pub returns-in-Ok-append-clause-fits : goal.returns-in-Ok-append-clause-fits
returns-in-Ok-append-clause-fits g c = ends_fit c.args.key.now (request c.args.asked.now) _ _ _ _ c.requires.fits (returns-in-Ok-append-clause-takes g c).ends

pub returns-in-Ok-append-clause-short : goal.returns-in-Ok-append-clause-short
returns-in-Ok-append-clause-short g c = ends_short c.args.key.now (request c.args.asked.now) _ _ _ _ (returns-in-Ok-append-clause-takes g c).ends
