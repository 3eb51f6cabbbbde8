-- A line of the channel is given while fewer than 16 are; no other adds one.
use Rattle.std.proofs.Common.{◌≡◌, ◌≢◌, ◌++◌, ◌∷◌, ◌≤◌, ◌<◌, Bor, List, ℕ, [], length, map, sym, ap, ◌∙◌, arith}
use Rattle.std.proofs.lemmas.Bool.{eq-eqb, eqb-false, eqb-true, ne_eqb}
use Rattle.std.proofs.lemmas.List.{length-map, map_push}
use Rattle.cred_pull.specs.Fetching.{Texts}
use Rattle.cred_pull.specs.WalletServing.{given_for}
use Rattle.cred_pull.specs.WalletView.{row_of}
use Rattle.cred_pull.proofs.Rows.{given_full, given_on, passed_over}
use Rattle.cred_pull.proofs.wallet_answer.give_line.Goals as goal

pub returns-then-line-channel : goal.returns-then-line-channel
returns-then-line-channel c = λ above is. is ∙ sym (passed_over c.args.channel above (row_of c.args.line.now) (ne_eqb c.args.line.now.channel c.args.channel c.if-line-channel.true))

pub returns-then-is_full : goal.returns-then-is_full
returns-then-is_full c = λ above is.
    let now : Bor (List ℕ) → List ℕ = λ t. t.now in
    let sixteen : length c.args.certs.now.items ≡ 16 = eqb-true (length c.args.certs.now.items) 16 (sym c.is_full.ensures.value ∙ c.if-is_full.true) in
    let full : 16 ≤ length (given_for above c.args.channel) = omega (arith, sixteen, ap length is, length-map c.args.certs.now.items now) in
    is ∙ sym (given_full c.args.channel above (row_of c.args.line.now) full)

pub returns : goal.returns
returns c = λ above is.
    let now : Bor (List ℕ) → List ℕ = λ t. t.now in
    let fewer : length c.args.certs.now.items ≢ 16 = eqb-false (length c.args.certs.now.items) 16 (sym c.is_full.ensures.value ∙ c.if-is_full.false) in
    let few : length (given_for above c.args.channel) < 16 = omega (arith, fewer, c.is_full.ensures.fits, ap length is, length-map c.args.certs.now.items now) in
    ap (map now) c.push.ensures.items ∙ map_push now c.args.certs.now.items c.as_slice.result
    ∙ ap (λ (l : Texts). l ++ now c.as_slice.result ∷ []) is
    ∙ ap (λ (t : List ℕ). given_for above c.args.channel ++ t ∷ []) c.as_slice.ensures.value
    ∙ sym (given_on c.args.channel above (row_of c.args.line.now) (eq-eqb c.args.line.now.channel c.args.channel c.if-line-channel.false) few)
