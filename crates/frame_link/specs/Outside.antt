-- What a request reaches of the outside.
use Rattle.frame_link.specs.Relay.{Link}
use Rattle.frame_link.specs.Streams.{Stream}

-- a clock and a link to a relay, as contracts see them
pub record OutsideSeen : Type 0 where
  pub clock : Stream
  pub link : Link

-- the two, of these
abbrev pub outside_of : Stream → Link → OutsideSeen
outside_of clock link = record { clock = clock; link = link }
