use Rattle.std.proofs.Common.{List, map, sym, subst}
use Rattle.std.specs.Arc.{arc_value}
use Rattle.std.specs.declared.alloc.Global.{Global}
use Rattle.std.specs.declared.sync.Arc.{Arc}
use Rattle.prin_term.specs.View.{grant}
use Rattle.stmt_codec.specs.declared.cert.Cert.{Cert}
use Rattle.taos_calculus.specs.Tables.{Parts, lines_of}
use Rattle.taos_wire.specs.declared.reply.Reply as code
use Rattle.taos_wire.specs.View.{cited, reply as reply_is, request as request_is}
use Rattle.node_file.specs.Meaning.{opening}
use Rattle.node_commands.specs.Checking.{IsBelieved, IsForEntry, no_grant}
use Rattle.node_commands.proofs.Looked.{other_status}
use Rattle.node_commands.proofs.checking.ruled.Goals as goal

pub returns-in_default : goal.returns-in_default
returns-in_default c = λ q p key believed. no_grant (request_is c.args.asked.now) key (reply_is c.args.answer.now) believed (other_status c.args.answer.now c.in_default.not-Granted)

pub returns-in-Err : goal.returns-in-Err
returns-in-Err c = λ q p key believed.
    let g = c.in-Granted in
    c.in-Err.ensures.stops q p (lines_of (arc_value g.proof)) (map (cited {Z = Global}) g.certs.items) (record {
      key = key;
      kept = g.kept;
      shard = g.shard;
      place = g.place';
      result = g.result.items;
      believed = subst (λ (a : code.Reply). IsBelieved (opening c.args.node.now) q p (request_is c.args.asked.now) key (reply_is a)) g.is believed;
    })

pub returns : goal.returns
returns c = λ q p key believed.
    let g = c.in-Granted in
    let r = request_is c.args.asked.now in
    let o = opening c.args.node.now in
    let e = grant c.in-Ok.entry.now in
    let stands = c.in-Ok.ensures.stands q p (lines_of (arc_value g.proof)) (map (cited {Z = Global}) g.certs.items) (record {
      key = key;
      kept = g.kept;
      shard = g.shard;
      place = g.place';
      result = g.result.items;
      believed = subst (λ (a : code.Reply). IsBelieved o q p r key (reply_is a)) g.is believed;
    }) in
    c.judged.ensures q p r c.in_ok-subject.ensures
    (subst (λ (l : List (Arc Cert Global)). IsForEntry o q p r g.place (lines_of c.deref.result.now) (map (cited {Z = Global}) l) e) (sym c.deref-2.ensures.value)
    (subst (λ (x : Parts). IsForEntry o q p r g.place (lines_of x) (map (cited {Z = Global}) g.certs.items) e) (sym c.deref.ensures) stands))
