-- The first certificate that is not live and would have been enough.
use Rattle.std.specs.Prelude.{◌≡◌, ℕ, ◌+◌, ◌≤◌, List, Some, slice_get, take}
use Rattle.prin_term.specs.declared.term.Anchor.{Anchor}
use Rattle.prin_term.specs.Principal.{Principal}
use Rattle.stmt_codec.specs.Certificates.{Certificate}
use Rattle.prin_term.specs.View.{Grant}
use Rattle.taos_calculus.specs.Monitor.{FirstEntry, MaySpeak}
use Rattle.denial_link.specs.declared.revive.Revival.{Revival}
use Rattle.denial_link.specs.Order.{OutInOrder}
use Rattle.denial_link.specs.Revived.{claims, revived}

-- The live certificates and those up to c that are not live are enough, and no fewer are: the n
-- before c in the order are not enough with the live ones, and with c they are.
pub record IsNeeded (anchors : List Anchor) (certs : List Certificate)
    (moment : ℕ) (subject who : Principal) (c : ℕ) : Type 0 where
  -- how many that are not live come before c in the order
  pub n : ℕ
  -- the places of all that are not live, in order
  pub places : List ℕ
  pub in_order : OutInOrder certs moment places
  -- with c, and those before it, there is enough
  pub enough : MaySpeak anchors (claims (revived certs moment (take (n + 1) places))) subject who
  -- without c there is not
  pub no_fewer : (m : ℕ) → m ≤ n →
      MaySpeak anchors (claims (revived certs moment (take m places))) subject who → ⊥
  pub stands : slice_get places n ≡ Some c

-- of the entries with the right for whose principal all certificates do, the first, and the
-- certificate that is needed
pub record IsRevived (anchors : List Anchor) (certs : List Certificate) (moment : ℕ)
    (subject : Principal) (list : List Grant) (right : ℕ) (r : Revival) : Type 0 where
  pub entry : Grant
  pub first : FirstEntry list right (λ g. MaySpeak anchors (claims certs) subject g.who) r.entry entry
  pub needed : IsNeeded anchors certs moment subject entry.who r.cert
