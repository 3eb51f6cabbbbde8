-- The fetched texts by the same calls of the link, whatever calls are behind them: they come to one list of certificates, or the link
-- fails at one of them, and never both.
use Rattle.std.proofs.Common.{◌≡◌, ℕ, zero, suc, ◌+◌, ◌≤◌, List, [], ◌∷◌, ◌++◌, length, refl, sym, ap, ap₂, subst, ◌∙◌, append_assoc, inl, inr, arith}
use Rattle.stmt_codec.specs.Certificates.{Certificate}
use Rattle.relay_core.specs.Credentials.{LinkAnswer, Failed, LinkCall, call, IsIssued}
use Rattle.cred_pull.specs.Fetching.{Texts}
use Rattle.cred_pull.specs.Pulled.{ArePulled, none_more, IsFailedAt}
use Rattle.cred_pull.proofs.OnePull.{LinkEnd, EndsOne, ends_one, ends_alike, same_answer, First, first_of}

no_calls : (key : List ℕ) (calls : List LinkCall) (certs : List Certificate) → ArePulled key [] calls certs → (calls ≡ []) × (certs ≡ [])
no_calls key calls certs none_more = (refl, refl)

module _ (key : List ℕ) where
  -- the calls for the first text, and those behind them
  split : (text : List ℕ) (texts : Texts) (calls rest : List LinkCall) (certs : List Certificate) (a : First key text texts calls certs) → calls ++ rest ≡ a.first ++ (a.more ++ rest)
  split text texts calls rest certs a = ap (λ (l : List LinkCall). l ++ rest) a.calls_are ∙ append_assoc a.first a.more rest

  -- the first text comes to the same by both, and what is behind is the same
  firsts : (text : List ℕ) (texts others : Texts) (calls others_by rest more : List LinkCall) (certs ds : List Certificate) (a : First key text texts calls certs) (b : First key text others others_by ds) → calls ++ rest ≡ others_by ++ more →
      (a.own ≡ b.own) × (a.more ++ rest ≡ b.more ++ more)
  firsts text texts others calls others_by rest more certs ds a b e =
      ends_alike key text a.first b.first (a.more ++ rest) (b.more ++ more) a.own b.own (ends_one key text a.first a.own a.opened) (ends_one key text b.first b.own b.opened)
      (sym (split text texts calls rest certs a) ∙ e ∙ split text others others_by more ds b)

  pub one_way : (texts : Texts) (calls others rest more : List LinkCall) (certs ds : List Certificate) → ArePulled key texts calls certs → ArePulled key texts others ds → calls ++ rest ≡ others ++ more → (rest ≡ more) × (certs ≡ ds)
  one_way [] calls others rest more certs ds x y e =
      let (none, empty) = no_calls key calls certs x in
      let (nothing, lacking) = no_calls key others ds y in
      (ap (λ (l : List LinkCall). l ++ rest) (sym none) ∙ e ∙ ap (λ (l : List LinkCall). l ++ more) nothing, empty ∙ sym lacking)
  one_way (text ∷ texts) calls others rest more certs ds x y e =
      let a = first_of key text texts calls certs x in
      let b = first_of key text texts others ds y in
      let (own, behind) = firsts text texts texts calls others rest more certs ds a b e in
      let (same, later) = one_way texts a.more b.more rest more a.behind b.behind a.pulled b.pulled behind in
      (same, a.certs_are ∙ ap₂ (λ (k : List Certificate) (l : List Certificate). k ++ l) own later ∙ sym b.certs_are)

  -- the link failed for a text that is sent to it, so no calls that begin so bring it to an end
  unended : (text : List ℕ) (first rest more : List LinkCall) (own : List Certificate) → length text ≤ 2048 → IsIssued text → EndsOne key text first own → call text Failed ∷ rest ≡ first ++ more → ⊥
  unended text first rest more own short issued (inl (long, none, is)) e = omega (arith, long, short)
  unended text first rest more own short issued (inr (within, inl (other, none, x))) e = other issued
  unended text first rest more own short issued (inr (within, inr (also, (answer, one, x)))) e =
      let same = same_answer key text Failed answer rest more (e ∙ ap (λ (l : List LinkCall). l ++ more) one) in
      subst (λ (a : LinkAnswer). LinkEnd key text a own) (sym same.0) x

  never_there : (front : Texts) (text : List ℕ) (behind : Texts) (before rest calls more : List LinkCall) (certs ds : List Certificate) → ArePulled key front before certs → length text ≤ 2048 → IsIssued text →
      ArePulled key (front ++ text ∷ behind) calls ds → before ++ call text Failed ∷ rest ≡ calls ++ more → ⊥
  never_there [] text behind before rest calls more certs ds x short issued y e =
      let (none, empty) = no_calls key before certs x in
      let b = first_of key text behind calls ds y in
      unended text b.first rest (b.more ++ more) b.own short issued (ends_one key text b.first b.own b.opened)
      (ap (λ (l : List LinkCall). l ++ call text Failed ∷ rest) (sym none) ∙ e ∙ split text behind calls more ds b)
  never_there (t ∷ front) text behind before rest calls more certs ds x short issued y e =
      let a = first_of key t front before certs x in
      let b = first_of key t (front ++ text ∷ behind) calls ds y in
      let (own, later) = firsts t front (front ++ text ∷ behind) before calls (call text Failed ∷ rest) more certs ds a b e in
      never_there front text behind a.more rest b.more more a.behind b.behind a.pulled short issued b.pulled later

  -- where the link failed at a text the texts are not pulled by calls that begin so
  pub never_both : (texts : Texts) (calls others rest more : List LinkCall) (place : ℕ) (ds : List Certificate) → IsFailedAt key texts calls place → ArePulled key texts others ds → calls ++ rest ≡ others ++ more → ⊥
  never_both texts calls others rest more place ds f y e =
      let s = f.stops in
      never_there s.front f.text s.rest f.before rest others more s.certs ds s.pulled f.short f.issued (subst (λ (ts : Texts). ArePulled key ts others ds) s.whole y)
      (sym (append_assoc f.before (call f.text Failed ∷ []) rest) ∙ ap (λ (l : List LinkCall). l ++ rest) (sym f.calls_are) ∙ e)

  heads : (t u : List ℕ) (ts us : Texts) → t ∷ ts ≡ u ∷ us → (t ≡ u) × (ts ≡ us)
  heads t u ts us e = (cc, cc)

  tails : (c d : LinkCall) (m k : List LinkCall) → c ∷ m ≡ d ∷ k → m ≡ k
  tails c d m k e = cc

  one_stop : (front others : Texts) (text other : List ℕ) (behind back : Texts) (before was rest more : List LinkCall) (certs ds : List Certificate) → ArePulled key front before certs → ArePulled key others was ds →
      length text ≤ 2048 → IsIssued text → length other ≤ 2048 → IsIssued other → front ++ text ∷ behind ≡ others ++ other ∷ back →
      before ++ call text Failed ∷ rest ≡ was ++ call other Failed ∷ more → (length front ≡ length others) × (rest ≡ more)
  one_stop [] [] text other behind back before was rest more certs ds x y short issued low sent whole e =
      let (none, empty) = no_calls key before certs x in
      let (nothing, lacking) = no_calls key was ds y in (
        refl,
        tails (call text Failed) (call other Failed) rest more
            (ap (λ (l : List LinkCall). l ++ call text Failed ∷ rest) (sym none) ∙ e ∙ ap (λ (l : List LinkCall). l ++ call other Failed ∷ more) nothing),
      )
  one_stop [] (u ∷ others) text other behind back before was rest more certs ds x y short issued low sent whole e =
      let (none, empty) = no_calls key before certs x in
      let same = (heads text u behind (others ++ other ∷ back) whole).0 in
      let b = first_of key u others was ds y in
      absurd (unended text b.first rest (b.more ++ call other Failed ∷ more) b.own short issued (subst (λ (t : List ℕ). EndsOne key t b.first b.own) (sym same) (ends_one key u b.first b.own b.opened))
      (ap (λ (l : List LinkCall). l ++ call text Failed ∷ rest) (sym none) ∙ e ∙ split u others was (call other Failed ∷ more) ds b))
  one_stop (t ∷ front) [] text other behind back before was rest more certs ds x y short issued low sent whole e =
      let (none, empty) = no_calls key was ds y in
      let same = (heads t other (front ++ text ∷ behind) back whole).0 in
      let a = first_of key t front before certs x in
      absurd (unended other a.first more (a.more ++ call text Failed ∷ rest) a.own low sent (subst (λ (u : List ℕ). EndsOne key u a.first a.own) same (ends_one key t a.first a.own a.opened))
      (ap (λ (l : List LinkCall). l ++ call other Failed ∷ more) (sym none) ∙ sym e ∙ split t front before (call text Failed ∷ rest) certs a))
  one_stop (t ∷ front) (u ∷ others) text other behind back before was rest more certs ds x y short issued low sent whole e =
      let (same, wholes) = heads t u (front ++ text ∷ behind) (others ++ other ∷ back) whole in
      let a = first_of key t front before certs x in
      let b = first_of key t others was ds (subst (λ (v : List ℕ). ArePulled key (v ∷ others) was ds) (sym same) y) in
      let (own, later) = firsts t front others before was (call text Failed ∷ rest) (call other Failed ∷ more) certs ds a b e in
      let (count, behinds) = one_stop front others text other behind back a.more b.more rest more a.behind b.behind a.pulled b.pulled short issued low sent wholes later in
      (ap suc count, behinds)

  -- two places where it failed are one
  pub one_place : (texts : Texts) (calls others rest more : List LinkCall) (place at : ℕ) → IsFailedAt key texts calls place → IsFailedAt key texts others at → calls ++ rest ≡ others ++ more → (place ≡ at) × (rest ≡ more)
  one_place texts calls others rest more place at f g e =
      let s = f.stops in
      let t = g.stops in
      let (count, same) = one_stop s.front t.front f.text g.text s.rest t.rest f.before g.before rest more s.certs t.certs s.pulled t.pulled f.short f.issued g.short g.issued (sym s.whole ∙ t.whole)
      (sym (append_assoc f.before (call f.text Failed ∷ []) rest) ∙ ap (λ (l : List LinkCall). l ++ rest) (sym f.calls_are) ∙ e ∙ ap (λ (l : List LinkCall). l ++ more) g.calls_are ∙ append_assoc g.before (call g.text Failed ∷ []) more) in
      (sym s.there ∙ count ∙ t.there, same)
