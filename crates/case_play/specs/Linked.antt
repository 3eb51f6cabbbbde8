-- What the link of a conversation's lane shows.
use Rattle.std.specs.Prelude.{None}
use Rattle.frame_link.specs.Relay.{Link, link}
use Rattle.relay_core.specs.Links.{shown_link}
use Rattle.relay_core.specs.Plans.{mem_link}
use Rattle.case_play.specs.declared.linking.CaseLink.{CaseLink}
use Rattle.case_play.specs.declared.linking.CaseLink.TheVariants.{Absent, AtHand, ByFrames}

-- as the one that it is
abbrev pub case_link : CaseLink → Link
case_link (Absent faults) = link None faults faults
case_link (AtHand relay) = mem_link relay
case_link (ByFrames frames) = shown_link frames
