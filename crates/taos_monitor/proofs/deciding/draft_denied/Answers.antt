-- What a denial names is there, and is told.
use Rattle.std.proofs.Common.{◌≡◌, ◌<◌, length, map, Some, slice_get, refl, sym, ap, subst, ◌∙◌, arith}
use Rattle.std.proofs.lemmas.List.{length-map}
use Rattle.std.proofs.lemmas.Option.{slice_get_within}
use Rattle.std.specs.Option.{option_map}
use Rattle.prin_term.specs.declared.limits.TheConstants.{ENTRY_NODES}
use Rattle.prin_term.specs.declared.term.Entry.{Entry}
use Rattle.prin_term.specs.Principal.{subterms}
use Rattle.prin_term.specs.View.{grant, principal}
use Rattle.taos_calculus.proofs.Induction.{All-at}
use Rattle.object_core.specs.Operation.{FitsGrant}
use Rattle.denial_link.proofs.Places.{entry_at}
use Rattle.taos_wire.specs.declared.reply.LinkSent.{LinkSent as LinkValue}
use Rattle.taos_wire.specs.Reply as replies
use Rattle.taos_wire.specs.Reply.{FitsLink, LinkSent}
use Rattle.taos_wire.specs.View.{link}
use Rattle.agent_core.specs.declared.asked.Denial.{Denial}
use Rattle.request_course.specs.Asking.{TellsDenial}
use Rattle.taos_monitor.specs.Ruling.{HasPart}
use Rattle.taos_monitor.proofs.Parts.{part_fits}
use Rattle.taos_monitor.proofs.deciding.draft_denied.Goals.{in-Expired, in-Early, in-NoEntry}
use Rattle.taos_monitor.proofs.deciding.draft_denied.Goals as goal

pub draft_missing-requires : goal.draft_missing-requires
draft_missing-requires c =
    let entries = c.args.list.now in
    let list = map grant entries in
    let (g, part, stands, there) = subst (HasPart list) c.in-Missing.is c.requires.named in
    let within : c.in-Missing.entry < length entries = omega (arith, slice_get_within list c.in-Missing.entry g stands, length-map entries grant) in
    let at_place = c.index-list-entry.is in
    let entry = All-at FitsGrant list c.in-Missing.entry (grant c.index-list-entry.result) c.requires.list.1 (entry_at entries c.in-Missing.entry c.index-list-entry.result at_place within) in
    let at = subst (λ (e : Entry). slice_get (subterms (principal e.who)) c.in-Missing.node ≡ Some (principal c.unwrap-part.result.now)) (sym at_place)
    (sym c.part.ensures ∙ ap (option_map (λ t. principal t.now)) c.unwrap-part.ensures) in
    record { limits = part_fits ENTRY_NODES (principal c.index-list-entry.result.who) (principal c.unwrap-part.result.now) c.in-Missing.node entry.who at }

pub returns-in-Missing : goal.returns-in-Missing
returns-in-Missing c =
    let entries = c.args.list.now in
    let list = map grant entries in
    let (g, part, stands, there) = subst (HasPart list) c.in-Missing.is c.requires.named in
    let within : c.in-Missing.entry < length entries = omega (arith, slice_get_within list c.in-Missing.entry g stands, length-map entries grant) in
    let at_place = c.index-list-entry.is in
    let is = entry_at entries c.in-Missing.entry c.index-list-entry.result at_place within in
    let at = subst (λ (e : Entry). slice_get (subterms (principal e.who)) c.in-Missing.node ≡ Some (principal c.unwrap-part.result.now)) (sym at_place)
    (sym c.part.ensures ∙ ap (option_map (λ t. principal t.now)) c.unwrap-part.ensures) in
    let named = principal c.unwrap-part.result.now in
    record {
      reply = replies.Denied c.args.shard c.args.place (replies.Missing c.in-Missing.entry named);
      holds = subst (λ (d : Denial). (told : LinkSent) × TellsDenial list d told × (replies.Denied c.args.shard c.args.place (replies.Missing c.in-Missing.entry named) ≡ replies.Denied c.args.shard c.args.place told)) (sym c.in-Missing.is)
          (replies.Missing c.in-Missing.entry named, (grant c.index-list-entry.result, named, is, at, refl), refl);
      spelled = c.draft_missing.ensures.reply;
      short = c.draft_missing.ensures.short;
    }

pub draft-requires-clause-limits : goal.draft-requires-clause-limits
draft-requires-clause-limits c = (
  omega (arith, c.ranges.shard.fits),
  omega (arith, c.ranges.place.fits),
  elim c.match-denial.branch [
    | in-Expired w ↦ subst (λ (l : LinkValue). FitsLink (link l)) (sym w.link-is) (subst (HasPart (map grant c.args.list.now)) w.in-Expired.is c.requires.named)
    | in-Early w ↦ subst (λ (l : LinkValue). FitsLink (link l)) (sym w.link-is) (subst (HasPart (map grant c.args.list.now)) w.in-Early.is c.requires.named)
    | in-NoEntry w ↦ subst (λ (l : LinkValue). FitsLink (link l)) (sym w.link-is) tt
  ],
)
