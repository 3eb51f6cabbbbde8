-- what is read of the command of this name
use Rattle.std.proofs.Common.{refl}
use Rattle.node_commands.specs.declared.words.wanted.Wanted.TheVariants as wanted
use Rattle.node_commands.specs.Words.{Running, Relaying, Minting, Serving, RelayServing, Auditing, Drilling, Carrying, Giving, drill_words, mint_words, path_words, run_words, serve_words, AuditingBytes}
use Rattle.node_commands.specs.Table.{texts_of}
use Rattle.node_commands.proofs.Tasks.{read_of, unread_of}
use Rattle.node_commands.proofs.words.meaning.asked_of.Goals as goal

pub returns-in_ok-frames-in-run : goal.returns-in_ok-frames-in-run
returns-in_ok-frames-in-run c =
    let read = c.in_ok-frames-in-run in
    read_of Running c.in-run.is (texts_of c.args.options.now) (wanted.Run read.frames read.lemmas read.pulls) (run_words read.frames read.lemmas read.pulls) refl read.ensures

pub returns-in_ok-frames_of-in-relay : goal.returns-in_ok-frames_of-in-relay
returns-in_ok-frames_of-in-relay c =
    read_of Relaying c.in-relay.is (texts_of c.args.options.now) (wanted.Relay c.in_ok-frames_of-in-relay.field-0) c.in_ok-frames_of-in-relay.field-0 refl c.in_ok-frames_of-in-relay.ensures

pub returns-in_ok-mint_of-in-mint : goal.returns-in_ok-mint_of-in-mint
returns-in_ok-mint_of-in-mint c =
    read_of Minting c.in-mint.is (texts_of c.args.options.now) (wanted.Mint c.in_ok-mint_of-in-mint.field-0) (mint_words c.in_ok-mint_of-in-mint.field-0) refl c.in_ok-mint_of-in-mint.ensures

pub returns-in_err-limits-in-serve : goal.returns-in_err-limits-in-serve
returns-in_err-limits-in-serve c = unread_of Serving c.in-serve.is (texts_of c.args.options.now) c.from_residual-in_err-limits-in-serve.ensures c.in_err-limits-in-serve.ensures

pub returns-in_ok-limits-in-serve : goal.returns-in_ok-limits-in-serve
returns-in_ok-limits-in-serve c =
    let read = c.in_ok-limits-in-serve in
    read_of Serving c.in-serve.is (texts_of c.args.options.now) (wanted.Serve read.limits read.lemmas read.pulls) (serve_words read.limits read.lemmas read.pulls) refl read.ensures

pub returns-in_err-limits_of-in-text : goal.returns-in_err-limits_of-in-text
returns-in_err-limits_of-in-text c = unread_of RelayServing c.in-text.is (texts_of c.args.options.now) c.from_residual-in_err-limits_of-in-text.ensures c.in_err-limits_of-in-text.ensures

pub returns-in_ok-limits_of-in-text : goal.returns-in_ok-limits_of-in-text
returns-in_ok-limits_of-in-text c =
    read_of RelayServing c.in-text.is (texts_of c.args.options.now) (wanted.RelayServe c.in_ok-limits_of-in-text.field-0) c.in_ok-limits_of-in-text.field-0 refl c.in_ok-limits_of-in-text.ensures

pub returns-in_ok-frames_of-in-audit : goal.returns-in_ok-frames_of-in-audit
returns-in_ok-frames_of-in-audit c =
    read_of Auditing c.in-audit.is (texts_of c.args.options.now) (wanted.Audit c.in_ok-frames_of-in-audit.field-0) c.in_ok-frames_of-in-audit.field-0 refl c.in_ok-frames_of-in-audit.ensures

pub returns-in_ok-drill_of-in-drill : goal.returns-in_ok-drill_of-in-drill
returns-in_ok-drill_of-in-drill c =
    read_of Drilling c.in-drill.is (texts_of c.args.options.now) (wanted.Drill c.in_ok-drill_of-in-drill.field-0) (drill_words c.in_ok-drill_of-in-drill.field-0) refl c.in_ok-drill_of-in-drill.ensures

pub returns-in_ok-path_of-in-path : goal.returns-in_ok-path_of-in-path
returns-in_ok-path_of-in-path c =
    read_of Carrying c.in-path.is (texts_of c.args.options.now) (wanted.Path c.in_ok-path_of-in-path.field-0) (path_words c.in_ok-path_of-in-path.field-0) refl c.in_ok-path_of-in-path.ensures

pub returns-in_ok-frames_of-in-wallet : goal.returns-in_ok-frames_of-in-wallet
returns-in_ok-frames_of-in-wallet c =
    read_of Giving c.in-wallet.is (texts_of c.args.options.now) (wanted.Wallet c.in_ok-frames_of-in-wallet.field-0) c.in_ok-frames_of-in-wallet.field-0 refl c.in_ok-frames_of-in-wallet.ensures

pub returns-in_ok-frames_of-in-text-2 : goal.returns-in_ok-frames_of-in-text-2
returns-in_ok-frames_of-in-text-2 c =
    read_of AuditingBytes c.in-text-2.is (texts_of c.args.options.now) (wanted.AuditBytes c.in_ok-frames_of-in-text-2.field-0) c.in_ok-frames_of-in-text-2.field-0 refl c.in_ok-frames_of-in-text-2.ensures
