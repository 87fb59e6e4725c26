-- A certificate's bytes as they come in, some bytes more.
use Rattle.std.proofs.Common.{◌≡◌, ◌≢◌, ℕ, ◌+◌, true, List, [], ◌∷◌, ◌++◌, Option, None, Some, sym, ap, ◌∙◌, subst, append_assoc, append-nil}
use Rattle.std.specs.Option.{is_some}
use Rattle.std.specs.Prelude.{IfSome}
use Rattle.coord_text.specs.Claims.{text_of}
use Rattle.cert_text.specs.declared.kinds.CertKind.{CertKind}
use Rattle.cert_text.specs.declared.kinds.CertKind.TheVariants as kind
use Rattle.cert_text.specs.ScanState.{state_of}
use Rattle.margin_rows.specs.Case.{Case}
use Rattle.cert_check.specs.OpenLines.{IsLeft}
use Rattle.cert_text.specs.Stops.{StopsAt}
use Rattle.cert_check.specs.Streams.{Goes, GoesOrStops, GoesWith, Reads}
use Rattle.cert_check.specs.declared.lines.LineCheck.{LineCheck}
use Rattle.cert_check.specs.declared.lines.LineFault.{LineFault}
use Rattle.cert_check.specs.declared.stream.TextCheck.{TextCheck}
use Rattle.cert_check.proofs.Stopping.{bad_more, ends_early, stops_bad, text_more}

-- after a bad line more bytes change nothing
pub reads_on : (case : Case) (check : TextCheck) (read more : List ℕ) (fault : Option LineFault) → is_some fault ≡ true → Reads case check read fault → Reads case check (read ++ more) fault
reads_on case check read more None is reads = absurd (cc is)
reads_on case check read more (Some fault) is reads = bad_more read more fault.line fault.kind reads

-- a byte of a line
pub reads_byte : (case : Case) (check after : TextCheck) (read : List ℕ) (byte : ℕ) → after.lines ≡ check.lines → ((left : List ℕ) → IsLeft check.room left → IsLeft after.room (left ++ byte ∷ [])) → GoesWith case check read
    → GoesWith case after (read ++ byte ∷ [])
reads_byte case check after read byte same push goes = record {
  lines = goes.lines;
  left = goes.left ++ byte ∷ [];
  parts = ap (λ (t : List ℕ). t ++ byte ∷ []) goes.parts ∙ append_assoc (text_of goes.lines) goes.left (byte ∷ []);
  room = push goes.left goes.room;
  goes = subst (λ (l : LineCheck). Goes case l goes.lines) (sym same) goes.goes;
}

-- a line feed
pub reads_feed : (case : Case) (check after : TextCheck) (read : List ℕ) → ((lines : List (List ℕ)) (left : List ℕ) → Goes case check.lines lines → IsLeft check.room left → GoesOrStops case after.lines lines left after.lines.fault)
    → IsLeft after.room [] → GoesWith case check read → Reads case after (read ++ 10 ∷ []) after.lines.fault
reads_feed case check after read step clear goes = by_fault after.lines.fault (step goes.lines goes.left goes.goes goes.room)
  where
    parts : read ++ 10 ∷ [] ≡ text_of goes.lines ++ (goes.left ++ 10 ∷ [])
    parts = ap (λ (t : List ℕ). t ++ 10 ∷ []) goes.parts ∙ append_assoc (text_of goes.lines) goes.left (10 ∷ [])

    by_fault : (fault : Option LineFault) → GoesOrStops case after.lines goes.lines goes.left fault → Reads case after (read ++ 10 ∷ []) fault
    by_fault None on = record {
      lines = goes.lines ++ goes.left ∷ [];
      left = [];
      parts = parts ∙ sym (text_more goes.lines goes.left) ∙ sym (append-nil (text_of (goes.lines ++ goes.left ∷ [])));
      room = clear;
      goes = on;
    }
    by_fault (Some fault) bad = record { before = goes.lines; here = goes.left; rest = []; parts = parts; no_feed = goes.room.no_feed; bad = bad }

-- at the end of the bytes: a bad line was there
pub bad_stops : (check : TextCheck) (fault : Option LineFault) → is_some fault ≡ true
    → IfSome fault (λ f. (case : Case) (bytes : List ℕ) → Reads case check bytes fault → StopsAt bytes f.line f.kind)
bad_stops check None is = absurd (cc is)
bad_stops check (Some fault) is = λ case bytes reads. stops_bad bytes fault.line fault.kind reads

-- or a line is due, or has begun
pub due_stops : (case : Case) (check : TextCheck) (bytes : List ℕ) (line : ℕ) (due : CertKind) → GoesWith case check bytes → line ≡ check.lines.taken + 1 → due ≡ check.lines.scan.due
    → ((left : List ℕ) → IsLeft check.room left → left ≡ [] → check.lines.scan.due ≢ kind.After) → StopsAt bytes line due
due_stops case check bytes line due goes number is other =
    ends_early bytes goes.left goes.lines (state_of check.lines.scan) line due goes.parts goes.room.no_feed goes.goes.reached (number ∙ ap (λ (n : ℕ). n + 1) goes.goes.taken) is (other goes.left goes.room)
