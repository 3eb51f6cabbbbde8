-- the word that stops it is the first that is wrong: those before it were read
use Rattle.std.proofs.Common.{refl, sym, ap, subst, ◌∙◌}
use Rattle.std.specs.Prelude.{option_map}
use Rattle.std.proofs.lemmas.Result.{err_from_is_err_and}
use Rattle.prin_term.specs.View.{principal}
use Rattle.stmt_codec.specs.Certificates.{beginning}
use Rattle.node_commands.specs.Words.{mint_words}
use Rattle.node_commands.specs.Minting.{AsksFor}
use Rattle.node_commands.proofs.Minted.{left_stops, quoted_stops, right_stops}
use Rattle.node_commands.proofs.minting.body_of.Goals as goal

pub returns-in_err-quoted-clause-stops : goal.returns-in_err-quoted-clause-stops
returns-in_err-quoted-clause-stops c = λ issuers key known.
    let p = err_from_is_err_and c.from_residual.result c.from_residual.ensures.1 in
    rw (p.1, p.2) (quoted_stops issuers c.args.names.now (mint_words c.args.mint.now) key known c.in-Some.from c.in-Some.until c.in-Some.ensures.0 c.in-Some.ensures.1 c.in_err-quoted.field-0.0 c.in_err-quoted.ensures.refused)

pub returns-in_err-left-clause-stops : goal.returns-in_err-left-clause-stops
returns-in_err-left-clause-stops c = λ issuers key known.
    let p = err_from_is_err_and c.from_residual-in_err-left.result c.from_residual-in_err-left.ensures.1 in
    rw (p.1, p.2) (left_stops issuers c.args.names.now (mint_words c.args.mint.now) key known c.in-Some.from c.in-Some.until c.in-Some.ensures.0 c.in-Some.ensures.1 (option_map principal c.in_ok-quoted.quoted) c.in_ok-quoted.ensures.read
    c.in_err-left.field-0.0 c.in_err-left.ensures.refused)

pub returns-in_err-right-clause-stops : goal.returns-in_err-right-clause-stops
returns-in_err-right-clause-stops c = λ issuers key known.
    let p = err_from_is_err_and c.from_residual-in_err-right.result c.from_residual-in_err-right.ensures.1 in
    rw (p.1, p.2) (right_stops issuers c.args.names.now (mint_words c.args.mint.now) key known c.in-Some.from c.in-Some.until c.in-Some.ensures.0 c.in-Some.ensures.1 (option_map principal c.in_ok-quoted.quoted) c.in_ok-quoted.ensures.read
    (principal c.in_ok-left.left) c.in_ok-left.ensures.read c.in_err-right.field-0.0 c.in_err-right.ensures.refused)

pub returns-clause-asked : goal.returns-clause-asked
returns-clause-asked c =
    subst (AsksFor c.args.names.now (mint_words c.args.mint.now)) (sym (c.beginning.ensures ∙ ap (beginning c.in-Some.from) c.says-body.ensures)) (record {
      issuer = refl;
      serial = refl;
      begins = c.in-Some.ensures.0;
      moment = c.in-Some.ensures.1;
      quoted = c.in_ok-quoted.ensures.read;
      left = c.in_ok-left.ensures.read;
      right = c.in_ok-right.ensures.read;
    })
