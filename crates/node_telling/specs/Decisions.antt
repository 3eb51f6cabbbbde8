-- What was ruled on a request, as a line of JSON: who asked what, how it was ruled, and whether a grant was done.
use Rattle.std.specs.Prelude.{ℕ, ◌==◌, Option, if◌then◌else◌, codes, List, ◌++◌}
use Rattle.std.specs.declared.net.socket_addr.SocketAddr.{SocketAddr}
use Rattle.json.specs.Token.{Token}
use Rattle.prin_text.specs.Labels.{Labels}
use Rattle.taos_wire.specs.Request.{Request}
use Rattle.node_telling.specs.declared.texts.reply.ReplyFront.{ReplyFront}
use Rattle.node_telling.specs.Asked.{asked_members}
use Rattle.node_telling.specs.Members.{counted, first_members, peer_members}
use Rattle.node_telling.specs.NoticeLines.{reply_members}

-- how it was ruled: granted, denied, or granted and then not done, or not whole
abbrev pub ruled_word : ReplyFront → List ℕ
ruled_word front =
    if front.head.status == 0 then codes "granted"
    else if front.head.status == 1 then codes "denied"
    else codes "not-done"

abbrev pub decision_members : Labels → Option ℕ → ℕ → Option SocketAddr → Request → ReplyFront → List Token
decision_members labels seconds lane peer r front =
    first_members seconds (codes "info") (ruled_word front) ++ counted (codes "lane") lane
    ++ peer_members peer ++ asked_members labels r ++ reply_members front
