use Rattle.std.proofs.Common.{◌≡◌, ◌≤◌, map, length}
use Rattle.std.specs.Prelude.{MatchOption}
use Rattle.prin_term.specs.View.{grant, principal}
use Rattle.stmt_codec.specs.View.{certificates}
use Rattle.denial_link.specs.Links.{NoneBefore}
use Rattle.denial_link.proofs.Reviving.{Enough, IsFoundAt}
use Rattle.denial_link.proofs.revive.first_revived.Given as goal

-- no entry before `end` is derivable with the first n, and the one at `end` is, if one was found
abbrev pub invariant-loop-n : goal.invariant-loop-n
invariant-loop-n g l = record {
  end_in : l.end ≤ length l.list;
  none : NoneBefore (map grant l.list) l.right (Enough l.anchors (certificates l.certs) l.moment l.places.items (principal l.subject) (map grant l.list) l.right l.n) l.end;
  found : MatchOption l.found (l.end ≡ length l.list) (IsFoundAt l.anchors (certificates l.certs) l.moment l.places.items (principal l.subject) (map grant l.list) l.right l.end l.n);
}
