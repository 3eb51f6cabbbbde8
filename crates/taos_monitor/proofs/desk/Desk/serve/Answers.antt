-- The service's states are told by the setting, which stays, and by what its answers change; what is lent to
-- it is given back as it was left.
use Rattle.std.proofs.Common.{◌≡◌, None, refl, ap, ◌∙◌, rules}
use Rattle.frame_link.specs.Lent.{Both}
use Rattle.frame_link.specs.Served.{line}
use Rattle.request_course.specs.States.{ServesIn}
use Rattle.taos_monitor.specs.Desk.{lent_by, line_at, state_at, setting_by}
use Rattle.request_course.specs.World.{Setting, fetch_use, reaching_by, state_with}
use Rattle.request_course.proofs.Connections.{connects, connection_by, none_connects, unfetched}
use Rattle.taos_monitor.proofs.Desks.{lent_apart, lent_names, same_one, same_three, serves_lent}
use Rattle.taos_monitor.proofs.desk.Desk.serve.Goals as goal

pub returns-in_default-clause-connection : goal.returns-in_default-clause-connection
returns-in_default-clause-connection g c = (record { setting = refl; lent = refl }, none_connects _ c.args.frames _ c.are_legal.ensures.legal)

pub returns-clause-connection : goal.returns-clause-connection
returns-clause-connection g c =
    let keys = c.args.self.now.keys.now in
    let pulls = c.args.self.now.pulls in
    let left = c.serve_frames.new.service in
    let told = connection_by (λ s. state_at g.S.Shards.shown g.H.Shelf.shown g.X.Reach.shown s.desk s.outside.now)
    _ c.args.frames _ _ c.serve_frames.result refl c.are_legal.ensures.legal c.serve_frames.ensures.served in
    let apart = lent_apart _ _ _ _ _ _ c.serve_frames.ensures.same in
    let names = lent_names _ _ _ _ _ _ apart.0 in
    same_three
    (λ s h x. ServesIn c.args.frames (line_at g.S.Shards.shown g.H.Shelf.shown g.X.Reach.shown g.I.Source.shown g.O.Sink.shown c.args.self.now c.args.outside.now c.args.input.now c.args.output.now)
    (line (g.I.Source.shown c.serve_frames.new.input) (g.O.Sink.shown c.serve_frames.new.output)
    (state_with (setting_by keys (g.S.Shards.shown s) (g.H.Shelf.shown h)) (reaching_by (g.X.Reach.shown x).outside (fetch_use pulls (g.X.Reach.shown x).fetch) (g.S.Shards.shown s) (g.H.Shelf.shown h))
    (Both (lent_by c.args.self.now) (g.X.Reach.shown x).lent)))
    c.serve_frames.result)
    left.desk.shards.now c.self-3-1.given.0 left.desk.shelf.now c.self-2-1.given.0 left.outside.now c.outside-1.given.0
    (search (rules, names)) (search (rules, names)) (search (rules, apart))
    (serves_lent keys left.desk.keys.now pulls left.desk.pulls (g.S.Shards.shown c.args.self.now.shards.now) (g.S.Shards.shown left.desk.shards.now) (g.H.Shelf.shown c.args.self.now.shelf.now) (g.H.Shelf.shown left.desk.shelf.now)
    (g.X.Reach.shown c.args.outside.now) (g.X.Reach.shown left.outside.now) _ c.args.frames _ _ _ _ c.serve_frames.result told.1 apart.2 told.0.fetched.0
    (connects _ c.args.frames _ _ c.serve_frames.result told.0 c.serve_frames.ensures.causes c.serve_frames.ensures.complete))

pub returns-clause-unfetched : goal.returns-clause-unfetched
returns-clause-unfetched g c = λ none.
    let told = connection_by (λ s. state_at g.S.Shards.shown g.H.Shelf.shown g.X.Reach.shown s.desk s.outside.now)
    _ c.args.frames _ _ c.serve_frames.result refl c.are_legal.ensures.legal c.serve_frames.ensures.served in
    let apart = lent_apart _ _ _ _ _ _ c.serve_frames.ensures.same in
    same_one (λ x. (g.X.Reach.shown x).fetch ≡ (g.X.Reach.shown c.args.outside.now).fetch) c.serve_frames.new.service.outside.now c.outside-1.given.0 (search (rules, apart))
    (unfetched _ c.args.frames _ _ c.serve_frames.result told.0 none)

pub returns-clause-free : goal.returns-clause-free
returns-clause-free g c =
    let left = c.serve_frames.new.service.desk in
    let told = connection_by (λ s. state_at g.S.Shards.shown g.H.Shelf.shown g.X.Reach.shown s.desk s.outside.now)
    _ c.args.frames _ _ c.serve_frames.result refl c.are_legal.ensures.legal c.serve_frames.ensures.served in
    let apart = lent_apart _ _ _ _ _ _ c.serve_frames.ensures.same in
    let names = lent_names _ _ _ _ _ _ apart.0 in
    let free = c.serve_frames.ensures.stays.2 in
    record {
      key = same_one (λ k. k ≡ c.args.self.now.keys.now.relay_key) left.opened.now c.self-4-1.given.0 (search (rules, names)) (free.key ∙ ap (λ (x : Setting). x.node.relay_key) told.1);
      none_taken = same_one (λ h. (g.H.Shelf.shown h).taken ≡ None) left.shelf.now c.self-2-1.given.0 (search (rules, names)) free.none_taken;
    }
