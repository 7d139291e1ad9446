-- What is known of a window, slot by slot. Assumes nothing.
use Rattle.std.specs.Prelude.{ℕ, ◌+◌, ◌-◌, ◌<◌, ◌≤◌, ◌↔◌, List}
use Rattle.codes.specs.Link.{Link}
use Rattle.systems.specs.System.{System}
use Rattle.systems.specs.Form.{StandsFor, ZeroContent}
use Rattle.systems.specs.Moving.{Continues}
use Rattle.streams.specs.Streams.{Stream, Shows}
use Rattle.streams.specs.Logs.{Log, settled, IsKnown}
use Rattle.streams.specs.Logs.Log.{none, lost, heard}
use Rattle.windows.specs.Window.{window_size, Seen, Carries, HasNumber}

-- where a system stands for just the windows of the streams that agree with a log, moving on by a packet stands for those of
-- the log with one more lost slot, and moving on with a block's packet and parities for those of the log with that block
pub record Follows {F S : Type 0} (link : Link F S) (w : ℕ) (old : System F S) (log : Log S) : Type 0 where
  pub lost : (x : ℕ → ℕ → S)
      → Continues link.operations (window_size link w) link.shape.sources old x ↔ Seen link w (lost log) x
  pub heard : (block : List S) (x : ℕ → ℕ → S)
      → (Continues link.operations (window_size link w) link.shape.sources old x × Carries link w block x)
      ↔ Seen link w (heard log block) x

-- of windows of w packets: each stream has one at every slot; at first all is zero, and from then on what is seen follows the
-- log; and all that are seen share a packet just where all streams that agree with the log have it in its slot
pub record WindowLaw {F S : Type 0} (link : Link F S) (w : ℕ) : Type 0 where
  pub some : (stream : Stream S) (n : ℕ) → (x : ℕ → ℕ → S) × Shows link w stream n x
  pub first : (x : ℕ → ℕ → S) → ZeroContent link.operations (window_size link w) x ↔ Seen link w none x
  pub next : (old : System F S) (log : Log S)
      → StandsFor link.operations (window_size link w) old (Seen link w log) → Follows link w old log
  pub known : (log : Log S) (v : ℕ) (packet : List S) → v < w → w ≤ settled log + v
      → ((x : ℕ → ℕ → S) → Seen link w log x → HasNumber link v packet x) ↔ IsKnown link log (settled log + v - w) packet
