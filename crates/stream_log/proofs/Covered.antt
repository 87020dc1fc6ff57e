-- What the theorems are said of: every call of `DataStream`, with any arguments of its types, refused ones too, every size that a start takes, and any number of payloads.
use Prim.Native.Nat.{ℕ, ◌≤◌, ◌<◌}
use Rattle.std.proofs.Common.{Ok}
use mathlib.Core.Path.{◌≡◌}
use mathlib.Core.Bool.{false}
use mathlib.Core.List.{List, [], ◌∷◌}
use native.Mathlib.Omega.{arith}
use lib.Dec.{eqb}
use lib.ListN.{length}
use borrow.Author.Tests.{le-leb, eq-eqb, ne_eqb}
use Rattle.config.specs.Range.{outside}
use Rattle.config.specs.Settings.{check_of}
use Rattle.config.specs.declared.settings.StreamConfig.{StreamConfig}
use Rattle.packet.specs.Layout.{Words32}
use Rattle.packet.specs.Write.{valid_of as payload_valid}
use Rattle.packet.specs.declared.writer.PayloadWriter.{PayloadWriter}
use Rattle.command.specs.Calls as Writes
use Rattle.command.specs.declared.retransmit.RetransmitRequest.{RetransmitRequest}
use Rattle.command.specs.declared.retransmit.RetransmitError.{RetransmitError}
use Rattle.delivery.specs.Commands.{is_data}
use Rattle.stream.specs.Answers.{new_answer}
use Rattle.stream_log.specs.Calls.{send_ump, on_retransmit_request, on_ump_data, on_retransmit_error, on_retransmit_nak, poll, write_request, write_data, next_deadline, wants_write, reset, AllTyped}
use Rattle.stream_log.specs.Promise.{Started}
use Rattle.stream_log.specs.Console.{Call, open_payload, lend_again, put_in, request_into, write_into, on_stream, EachAllowed, End}

-- ---- calls

-- settings, words, payloads and buffers may be such as are refused
pub every_call : (cfg : StreamConfig) (time seq : ℕ) (ws : List ℕ) (r : RetransmitRequest) (err : RetransmitError) (p : PayloadWriter) (b : List ℕ)
    → cfg.fec_repeats ≤ 255 → cfg.idle_further ≤ 255 → Words32 ws → seq < 65536 → r.seq < 65536 → r.count < 65536
    → AllTyped
    (send_ump cfg ws ∷ on_retransmit_request cfg r ∷ on_ump_data cfg time seq ws ∷ on_retransmit_error err ∷ on_retransmit_nak ∷ poll cfg time ∷ write_request cfg p b ∷ write_data cfg time p b
    ∷ next_deadline ∷ wants_write time ∷ reset ∷ [])
every_call cfg time seq ws r err p b f g w s n c =
    let R : cfg.fec_repeats < 256 = omega arith in
    let K : cfg.idle_further < 256 = omega arith in
    (((R, K), w), (((R, K), n, c), (s, (tt, (tt, (tt, (tt, ((R, K), (tt, (tt, (tt, tt)))))))))))

-- with payloads: into any of them, and a write that is refused for its payload; no reset
pub every_console_call : (limit k : ℕ) (buffer : List ℕ) (call : Writes.Call) (cfg : StreamConfig) (time seq : ℕ) (ws : List ℕ) (r : RetransmitRequest) (err : RetransmitError) (p : PayloadWriter)
    → Writes.Typed call → is_data (Writes.command_of call) ≡ false
    → cfg.fec_repeats ≤ 255 → cfg.idle_further ≤ 255 → Words32 ws → seq < 65536 → r.seq < 65536 → r.count < 65536 → payload_valid p (length buffer) ≡ false
    → EachAllowed
    (open_payload limit buffer ∷ lend_again k buffer ∷ put_in k call ∷ request_into k cfg ∷ write_into k cfg time
    ∷ on_stream (send_ump cfg ws) ∷ on_stream (on_retransmit_request cfg r) ∷ on_stream (on_ump_data cfg time seq ws) ∷ on_stream (on_retransmit_error err) ∷ on_stream on_retransmit_nak
    ∷ on_stream (poll cfg time) ∷ on_stream (write_request cfg p buffer) ∷ on_stream (write_data cfg time p buffer) ∷ on_stream next_deadline ∷ on_stream (wants_write time) ∷ [])
every_console_call limit k buffer call cfg time seq ws r err p t d f g w s n c v =
    let R : cfg.fec_repeats < 256 = omega arith in
    let K : cfg.idle_further < 256 = omega arith in (
      tt,
      (
        tt,
        (
          (t, d),
          (
            tt,
            (
              (R, K),
              (
                (((R, K), w), tt),
                (
                  (((R, K), n, c), tt),
                  (
                    (s, tt),
                    (
                      (tt, tt),
                      (
                        (tt, tt),
                        ((tt, tt), ((tt, tt), (((R, K), v), ((tt, tt), ((tt, tt), tt))))),
                      ),
                    ),
                  ),
                ),
              ),
            ),
          ),
        ),
      ),
    )

-- ---- sizes

in_range_lem : (l m n : ℕ) → l ≤ n → n ≤ m → outside l m n ≡ false
in_range_lem l m n p q = rw (le-leb l n p, le-leb n m q)

-- a command size of 1 to 64 words, an idle interval of 1 to 300 ms and any growth but 0: whatever the other settings are
pub every_setting : (cfg : StreamConfig) → 1 ≤ cfg.max_command_words → cfg.max_command_words ≤ 64 → 1 ≤ cfg.idle_interval_ms → cfg.idle_interval_ms ≤ 300 → 1 ≤ cfg.idle_growth → check_of cfg ≡ Ok tt
unfolding check_of
every_setting cfg a b c d g =
    let z : eqb cfg.idle_growth 0 ≡ false = ne_eqb cfg.idle_growth 0 (λ e. let w : ⊥ = omega arith in w) in
    rw (le-leb 1 cfg.max_command_words a, le-leb cfg.max_command_words 64 b, le-leb 1 cfg.idle_interval_ms c, le-leb cfg.idle_interval_ms 300 d, z)

-- a window of 1 to 128, a history of 65 to 32,768 words, 1 to 16 places for requests
pub every_size : (cfg : StreamConfig) → check_of cfg ≡ Ok tt → (W c q : ℕ) (ring₀ : List ℕ) → 1 ≤ W → W ≤ 128 → 65 ≤ c → c ≤ 32768 → length ring₀ ≡ c → 1 ≤ q → q ≤ 16 → Started cfg W c q ring₀
unfolding new_answer
every_size cfg k W c q ring₀ a b d f e g h =
    rw (k, le-leb 1 W a, le-leb W 128 b, le-leb 65 c d, le-leb c 32768 f, eq-eqb (length ring₀) c e, le-leb 1 q g, le-leb q 16 h)

-- so each of them is an end of a line, with any calls
pub every_end : (cfg : StreamConfig) → check_of cfg ≡ Ok tt → (W c q : ℕ) (ring₀ : List ℕ) → 1 ≤ W → W ≤ 128 → 65 ≤ c → c ≤ 32768 → length ring₀ ≡ c → 1 ≤ q → q ≤ 16
    → (calls : List Call) → EachAllowed calls → End
every_end cfg k W c q ring₀ a b d f e g h calls l =
    record { settings = cfg; window = W; words = c; places = q; ring₀ = ring₀; started = every_size cfg k W c q ring₀ a b d f e g h; calls = calls; allowed = l }
