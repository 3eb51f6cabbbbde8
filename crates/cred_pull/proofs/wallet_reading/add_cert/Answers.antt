use Rattle.std.proofs.Common.{◌≤◌, ◌∷◌, ◌++◌, [], List, map, length, sym, ap, subst, ◌∙◌, arith}
use Rattle.std.proofs.lemmas.List.{length-map, map_push}
use Rattle.std.proofs.lemmas.List.Elements.{All-nil, All-cons, All-append}
use Rattle.cred_pull.specs.WalletFile.{AreShort, WalletRow, wallet_row}
use Rattle.cred_pull.specs.WalletView.{row_of}
use Rattle.cred_pull.proofs.Rows.{few_enough, too_long, too_many}
use Rattle.cred_pull.proofs.wallet_reading.add_cert.Goals as goal

pub returns-then-len-gt-MAX_WALLET_CERT : goal.returns-then-len-gt-MAX_WALLET_CERT
returns-then-len-gt-MAX_WALLET_CERT c = record {
  takes = λ above all. too_long above (above ++ wallet_row c.args.channel c.args.cert.items ∷ []) c.args.cert.items (omega (arith, c.if-len-gt-MAX_WALLET_CERT.true));
  short = tt;
}

pub returns-then-len-ge-MAX_WALLET_LINES : goal.returns-then-len-ge-MAX_WALLET_LINES
returns-then-len-ge-MAX_WALLET_LINES c = record {
  takes = λ above all. too_many above (above ++ wallet_row c.args.channel c.args.cert.items ∷ []) c.args.cert.items (omega (arith, c.if-len-gt-MAX_WALLET_CERT.false))
      (omega (arith, c.if-len-ge-MAX_WALLET_LINES.true, ap length (sym all), length-map c.args.lines.now.items row_of));
  short = tt;
}

pub returns : goal.returns
returns c =
    let lines = c.args.lines.now.items in
    let row = wallet_row c.args.channel c.args.cert.items in
    let fits : length c.args.cert.items ≤ 1024 = omega (arith, c.if-len-gt-MAX_WALLET_CERT.false) in
    let pushed = ap (map row_of) c.in_ok-push.ensures.items ∙ map_push row_of lines _ in
    record {
      takes = λ above all. (
        above ++ row ∷ [],
        few_enough above (above ++ row ∷ []) c.args.cert.items fits (omega (arith, c.if-len-ge-MAX_WALLET_LINES.false, ap length (sym all), length-map lines row_of)),
        pushed ∙ ap (λ (l : List WalletRow). l ++ row ∷ []) all,
      );
      short = λ were. subst AreShort (sym pushed) (All-append (λ (r : WalletRow). length r.cert ≤ 1024) (map row_of lines) (row ∷ []) were
          (All-cons (λ (r : WalletRow). length r.cert ≤ 1024) row [] fits (All-nil (λ (r : WalletRow). length r.cert ≤ 1024))));
    }
