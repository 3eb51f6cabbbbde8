-- What a request reaches of the outside: the time, a relay, and its caller's certificates.
use Rattle.std.specs.Prelude.{◌≡◌, ℕ}
use Rattle.frame_link.specs.Lent.{Lent, Nothing}
use Rattle.frame_link.specs.Outside.{OutsideSeen}
use Rattle.cred_pull.specs.Fetching.{FetchSeen}
use Rattle.cred_pull.specs.Pulling.{PullUse, pull_use}
use Rattle.request_course.specs.Credentials.{LinkUse, link_use}

-- the clock, the link and the fetch, as contracts see them
pub record ReachSeen : Type 0 where
  pub outside : OutsideSeen
  pub fetch : FetchSeen
  -- what it borrows to change, where its owner is to know what became of that
  pub lent : Lent

-- what is reached, of these
abbrev pub reach_with : OutsideSeen → FetchSeen → Lent → ReachSeen
reach_with outside fetch lent = record { outside = outside; fetch = fetch; lent = lent }

-- the same, where nothing is borrowed
abbrev pub reach_of : OutsideSeen → FetchSeen → ReachSeen
reach_of outside fetch = reach_with outside fetch Nothing

-- what a node of this number used of the link, from the one to the other
abbrev pub link_by : ℕ → (before after : ReachSeen) → LinkUse
link_by node before after = link_use node before.outside.link after.outside.link

-- the same, and what it used of the fetch
abbrev pub pull_by : ℕ → (before after : ReachSeen) → PullUse
pull_by node before after = pull_use before.fetch after.fetch (link_by node before after)

-- nothing but the clock was used
pub record UsesClock (before after : ReachSeen) : Type 0 where
  pub link : after.outside.link ≡ before.outside.link
  pub fetch : after.fetch ≡ before.fetch
  pub lent : after.lent ≡ before.lent

-- nothing but the link was used
pub record UsesLink (before after : ReachSeen) : Type 0 where
  pub clock : after.outside.clock ≡ before.outside.clock
  pub fetch : after.fetch ≡ before.fetch
  pub lent : after.lent ≡ before.lent

-- nothing but the link and the fetch was used
pub record UsesFetch (before after : ReachSeen) : Type 0 where
  pub clock : after.outside.clock ≡ before.outside.clock
  pub lent : after.lent ≡ before.lent
