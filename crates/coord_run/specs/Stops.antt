-- Why a step answers nothing (ours).
use Rattle.coord_run.specs.declared.refusal.Refusal.{Refusal}
use Rattle.coord_run.specs.declared.refusal.Stop.{Stop}
use Rattle.coord_run.specs.declared.refusal.Stop.TheVariants.{Refused, NoMemory}

-- a step stopped for want of memory, or for a refusal of which the fact holds
abbrev pub StopsFor : Stop → (Refusal → Type 0) → Type 0
StopsFor NoMemory P = Unit {0}
StopsFor (Refused refusal) P = P refusal
