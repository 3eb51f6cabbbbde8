-- The fetch gave nothing, and nothing was asked of the link; or what it gave was taken in.
use Rattle.taos_wire.specs.View.{request, text_of}
use Rattle.std.proofs.Common.{◌≡◌, map, subst, rules}
use Rattle.relay_core.specs.Credentials.{link_use}
use Rattle.cred_pull.specs.Pulling.{TakesIn}
use Rattle.cred_pull.proofs.Fetches.{fetched}
use Rattle.cred_pull.proofs.Pulls.{pulls_failed, pulls_given, pulls_lacking, two_names}
use Rattle.cred_pull.proofs.pulling.pull_with.Goals as goal

pub returns-in-Ok-NoMemory-clause-pulls : goal.returns-in-Ok-NoMemory-clause-pulls
returns-in-Ok-NoMemory-clause-pulls g c =
    let f = g.P.Fetch.shown c.args.fetch.now in
    let after = g.P.Fetch.shown c.fetch.new.self in
    let one = fetched f after c.fetch.result c.fetch.ensures.gives c.fetch.ensures.within c.fetch.ensures.cause in
    pulls_lacking c.args.key.now c.args.node f after (g.R.RelayLink.shown c.args.link.now) (request c.args.asked.now) (rw (c.in-Ok-NoMemory.is, c.in-Ok-NoMemory.field-0-is) at one)

pub returns-in-Err-clause-pulls : goal.returns-in-Err-clause-pulls
returns-in-Err-clause-pulls g c =
    let f = g.P.Fetch.shown c.args.fetch.now in
    let after = g.P.Fetch.shown c.fetch.new.self in
    let one = fetched f after c.fetch.result c.fetch.ensures.gives c.fetch.ensures.within c.fetch.ensures.cause in
    pulls_failed c.args.key.now c.args.node f after (g.R.RelayLink.shown c.args.link.now) (request c.args.asked.now) (rw c.in-Err.is at one)

-- the link that was lent for it shows what it left
pub returns-clause-pulls : goal.returns-clause-pulls
returns-clause-pulls g c =
    let key = c.args.key.now in
    let before = g.R.RelayLink.shown c.args.link.now in
    let f = g.P.Fetch.shown c.args.fetch.now in
    let after = g.P.Fetch.shown c.fetch.new.self in
    let old = request c.args.asked.now in
    let new = request c.append_opened.new.asked in
    let certs = map text_of c.in-Ok-Given.certs.items in
    let one = fetched f after c.fetch.result c.fetch.ensures.gives c.fetch.ensures.within c.fetch.ensures.cause in
    let took = rw c.deref.ensures.value at c.append_opened.ensures.takes in
    let names = two_names _ _ _ _ _ _ c.append_opened.ensures.rest.lent in
    let left : c.append_opened.new.by.link.now ≡ c.link-1.given.0 = search (rules, names) in
    pulls_given key c.args.node f after before (g.R.RelayLink.shown c.link-1.given.0) old new certs c.append_opened.result (rw (c.in-Ok-Given.is, c.in-Ok-Given.field-0-is) at one)
    (subst (λ l. TakesIn key (link_use c.args.node before (g.R.RelayLink.shown l)) certs old new c.append_opened.result) left took)
