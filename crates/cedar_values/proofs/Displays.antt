-- Text that is written into a formatter by calls of `write_str`.
use Rattle.std.proofs.Common.{List, [], ◌∷◌, ℕ, subst, Result, Ok, Err, IsOk, OnOk}
use Rattle.std.specs.Fmt.{HasWritten, IsPlainFormatter, WritesInCalls}
use Rattle.std.specs.List.{concat, FoldsTo}
use Rattle.std.specs.declared.fmt.Error.{Error}
use Rattle.std.specs.declared.fmt.Formatter.{Formatter}
use Rattle.std.proofs.Output.{has_written_append, has_written_of_eq, writes_in_calls_nil}

pub if_ok : {P : Type 0} (r : Result (Unit {0}) Error) → OnOk r P → IsOk r → P
if_ok (Ok x) p h = p
if_ok (Err e) p h = cc

module _ {W : Type 0} (took : W → List ℕ → W → Type 0) where
  -- what `write_str` does to a formatter
  abbrev pub FormatterTook : Formatter W → List ℕ → Formatter W → Type 0
  FormatterTook f bs g = IsPlainFormatter f → HasWritten took f bs g

  calls_written : (f : Formatter W) (xs : List (List ℕ)) (g : Formatter W) → FoldsTo FormatterTook f xs g → IsPlainFormatter f → HasWritten took f (concat xs) g
  calls_written f [] g p plain = subst (λ h. HasWritten took f [] h) p (record { wrote = writes_in_calls_nil took _; plain = plain })
  calls_written f (x ∷ xs) g p plain =
      let first = p.1 plain in
      has_written_append took f x p.0 (concat xs) g first (calls_written p.0 xs g p.2 first.plain)

  pub formatter_written : (f : Formatter W) (bs : List ℕ) (g : Formatter W) → WritesInCalls FormatterTook f bs g → IsPlainFormatter f → HasWritten took f bs g
  formatter_written f bs g p plain = has_written_of_eq took f _ bs g p.whole (calls_written f p.parts g p.calls plain)
