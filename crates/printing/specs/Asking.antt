-- The questions of the asked lines, whatever the line of a bound is: each line asks for each value of its range, rising. Assumes nothing:
-- these are definitions.
use Rattle.std.specs.Prelude.{Option, Some, None, cond, List, [], ◌∷◌, ◌++◌, ℕ, zero, suc, ◌+◌, ◌-◌, ℤ}
use Rattle.model.specs.Words.{word}
use Rattle.model.specs.Signs.{Dir, if_above, only_if_above}
use Rattle.model.specs.Bounds.{run}
use Rattle.model.specs.Machine.{Party}
use Rattle.model.specs.Calls.{Enforced, nothing, literal, refused, enforce_damaged, enforce_upper, enforce_lower}
use Rattle.model.specs.Program.{Asked}
use Rattle.literal.specs.declared.Literal.{Literal}
use Rattle.literal.specs.Kinds.{direction_of}
use Rattle.plan.specs.Read.{asked_at, asked_from}
use Rattle.printing.specs.declared.questions.Bound.{Bound}
use Rattle.printing.specs.declared.questions.Question.{Question}

-- no line is answered where the party or the bound table is damaged
unfoldable pub answered : Party → List ℕ → ℕ → ℕ
answered p t n = cond (enforce_damaged p t) 0 n

-- ---- the answer to a question: an upper bound's or a lower one's, and its word where it has a literal
abbrev pub enforced_by : Dir → ℕ → Party → List ℕ → Enforced
enforced_by if_above v p t = enforce_upper v p t
enforced_by only_if_above v p t = enforce_lower v p t

abbrev pub word_answered : Enforced → Option ℤ
word_answered nothing = None
word_answered (literal l) = Some (word l)
word_answered (refused r) = None

abbrev pub word_in : Option Literal → Option ℤ
word_in None = None
word_in (Some l) = Some l.word

-- ---- the text of the asked lines
-- that of one bound, if one is asked for
abbrev pub bound_text : (Dir → ℕ → List ℕ) → Option Bound → List ℕ
bound_text line None = []
bound_text line (Some b) = line (direction_of b.direction) b.value

abbrev pub lines_for : (Dir → ℕ → List ℕ) → Dir → List ℕ → List ℕ
lines_for line δ [] = []
lines_for line δ (v ∷ vs) = line δ v ++ lines_for line δ vs

abbrev pub lines_asked : (Dir → ℕ → List ℕ) → List Asked → List ℕ
lines_asked line [] = []
lines_asked line (a ∷ as') = lines_for line a.dir (run a.from a.many) ++ lines_asked line as'

-- that of n lines from line j on, of which d of the first line's bounds are done
abbrev pub lines_from : (Dir → ℕ → List ℕ) → List ℕ → ℕ → ℕ → ℕ → List ℕ
lines_from line asked j d zero = []
lines_from line asked j d (suc n) =
    lines_for line (asked_at asked j).dir (run ((asked_at asked j).from + d) ((asked_at asked j).many - d))
    ++ lines_asked line (asked_from asked (suc j) n)

-- from a question on, of n lines in all
unfoldable pub text_from : (Dir → ℕ → List ℕ) → List ℕ → ℕ → Question → List ℕ
text_from line asked n q = lines_from line asked q.line q.done (n - q.line)

-- ---- how many turns are left at most after this one
abbrev pub turns_left : List ℕ → ℕ → ℕ → ℕ → ℕ
turns_left asked j d zero = 0
turns_left asked j d (suc n) = suc ((asked_at asked j).many - d) + turns_left asked (suc j) 0 n

unfoldable pub turns_from : List ℕ → ℕ → Question → ℕ
turns_from asked n q = turns_left asked q.line q.done (n - q.line)
