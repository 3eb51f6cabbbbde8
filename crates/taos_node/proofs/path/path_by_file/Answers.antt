use Rattle.std.proofs.Common.{refl, subst, sym, List, map}
use Rattle.relay_path.specs.declared.domain.Domain.{Domain}
use Rattle.relay_path.specs.Domains.{LinksAgree, knows}
use Rattle.taos_node.specs.Calls.{touched}
use Rattle.taos_node.specs.Command.{UsesNoLane}
use Rattle.node_commands.specs.Paths.{Passes}
use Rattle.node_commands.specs.Words.{Path, path_words}
use Rattle.taos_node.proofs.Endings.{passed}
use Rattle.node_commands.proofs.Standing.{stand_passes}
use Rattle.taos_node.proofs.Statuses.{refuses}
use Rattle.taos_node.proofs.path.path_by_file.Goals as goal

pub pass-requires : goal.pass-requires
pass-requires g c = record { links = subst (λ (l : List Domain). LinksAgree (map knows l)) (sym c.deref.ensures.value) c.in-Ok.ensures.links }

pub returns-in-Ok : goal.returns-in-Ok
returns-in-Ok g c = record {
  passes = λ used words is.
      let before = touched (g.F.Source.shown c.args.file.now) (g.I.Source.shown c.args.input.now)
      (g.O.Sink.shown c.args.output.now) used in
      let after = touched (g.F.Source.shown c.file_domains.new.file) (g.I.Source.shown c.pass.new.input)
      (g.O.Sink.shown c.pass.new.output) used in
      let gives = c.in-Ok.ensures.gives in
      let lane : UsesNoLane before after = record { clock = refl; link = refl; fetch = refl } in
      let p = path_words c.args.asked.now in
      let done = subst (λ (l : List Domain). Passes (map knows l) p before.input.told after.input.told before.output.told after.output.told c.pass.result) c.deref.ensures.value c.pass.ensures.passes in (
        (
          p,
          is,
          (
            gives.0,
            gives.1,
            record {
              passes = stand_passes c.in-Ok.domains.items gives.0 p before.input.told after.input.told before.output.told after.output.told c.pass.result gives.2 done;
              lane = lane;
            },
          ),
        ),
        passed words p before after gives.0 c.pass.result is gives.1 c.in-Ok.ensures.cause refl c.pass.ensures.causes,
      );
}

pub returns-in-Err : goal.returns-in-Err
returns-in-Err g c = record {
  passes = refuses (Path (path_words c.args.asked.now)) (g.F.Source.shown c.args.file.now) (g.F.Source.shown c.file_domains.new.file) (g.I.Source.shown c.args.input.now) (g.O.Sink.shown c.args.output.now) c.in-Err.fault c.in-Err.ensures.gives c.in-Err.ensures.cause;
}
