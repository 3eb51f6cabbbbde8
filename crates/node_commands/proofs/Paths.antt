-- What comes first in the input of `path`, and what is done with it.
use Rattle.std.proofs.Common.{◌≡◌, ◌≢◌, ℕ, List, [], refl, subst}
use Rattle.frame_link.specs.declared.frame.Next.{Next}
use Rattle.frame_link.specs.declared.frame.Next.TheVariants as next
use Rattle.frame_link.specs.Next.{TakesFrame}
use Rattle.frame_link.specs.Streams.{Stream}
use Rattle.node_commands.specs.Findings.{TakesNext, TakesOne}
use Rattle.std.specs.Prelude.{Option, Some, None}
use Rattle.std.specs.Borrow.{Bor}
use Rattle.std.specs.Option.{option_map}
use Rattle.node_commands.specs.Words.{PathWords}
use Rattle.relay_path.specs.declared.answer.Along.{Along}
use Rattle.relay_path.specs.Domains.{DomainKnows}
use Rattle.relay_path.specs.Paths.{Goes}
use Rattle.relay_core.specs.declared.message.TheConstants.{MAX_CERT}
use Rattle.node_commands.specs.Paths.{Brings, bytes_or_none}

module _ (limit most : ℕ) (same : limit ≡ most) (before after : Stream) where
  -- a frame came
  pub one_taken : (payload : List ℕ) → TakesFrame limit before after payload next.Frame → TakesOne most before.told after.told (Some payload)
  one_taken payload came = subst (λ (n : ℕ). TakesFrame n before after payload next.Frame) same came

  -- none came, and nothing failed
  pub none_taken : (payload : List ℕ) (came : Next) → came ≢ next.Frame → came ≢ next.ReadFault → TakesFrame limit before after payload came → TakesOne most before.told after.told None
  none_taken payload next.Frame no_frame no_fault is = absurd (no_frame refl)
  none_taken payload next.End no_frame no_fault is = (next.End, tt, is)
  none_taken payload (next.Truncated have) no_frame no_fault is = (next.Truncated have, tt, subst (λ (n : ℕ). TakesFrame n before after [] (next.Truncated have)) same is)
  none_taken payload (next.TooLong n) no_frame no_fault is = (next.TooLong n, tt, subst (λ (m : ℕ). TakesFrame m before after [] (next.TooLong n)) same is)
  none_taken payload next.ReadFault no_frame no_fault is = absurd (no_fault refl)

  -- a read failed
  pub fault_taken : (payload : List ℕ) → TakesFrame limit before after payload next.ReadFault → TakesNext most before.told after.told [] next.ReadFault
  fault_taken payload is = subst (λ (n : ℕ). TakesFrame n before after [] next.ReadFault) same is

-- the bytes that were found, or none
pub brought : (in0 in1 : Option (List ℕ)) (found : Option (Bor (List ℕ))) (bytes : Bor (List ℕ)) → TakesOne MAX_CERT in0 in1 (option_map (λ s. s.now) found) → bytes.now ≡ bytes_or_none (option_map (λ s. s.now) found) → Brings in0 in1 bytes.now
brought in0 in1 found bytes taken are = record { frame = option_map (λ s. s.now) found; taken = taken; are = are }

-- where a route ends that began with no bytes behind it
pub from_nothing : (ds : List DomainKnows) (p : PathWords) (route bytes old new : List ℕ) (end : Along) → route ≡ p.route → old ≡ [] → Goes ds route p.node bytes end old new → Goes ds p.route p.node bytes end [] new
from_nothing ds p route bytes old new end same none goes =
    subst (λ (l : List ℕ). Goes ds p.route p.node bytes end l new) none (subst (λ (r : List ℕ). Goes ds r p.node bytes end old new) same goes)
