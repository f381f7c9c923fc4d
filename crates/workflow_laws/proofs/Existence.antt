-- A class that has a plan has an outcome of each command.
use Rattle.std.proofs.Common.{ℕ, Bool, true, false, List, refl, Option, Some, None}
use Rattle.std.specs.Prelude.{Contains, IsSome}
use Rattle.cfg_ast.specs.declared.classes.DestClass.{DestClass}
use Rattle.cfg_ast.specs.declared.network.Network.{Network}
use Rattle.cfg_ast.specs.meaning.Classes.{classes_of}
use Rattle.cfg_print.specs.Prints.{is_too_long}
use Rattle.config_emit.specs.Plan.{Plan}
use Rattle.config_emit.specs.Pool.{pool_line}
use Rattle.group_report.specs.GroupLines.{group_lines}
use Rattle.group_report.specs.JsonText.{json_text}
use Rattle.group_report.specs.Reports.{report_text}
use Rattle.srp_core.specs.declared.route.Route.{Route}
use Rattle.srp_core.specs.Problem.{Problem, IsProblem}
use Rattle.route_run.specs.Orders.{IsOrderOf}
use Rattle.answer_groups.specs.CompressText.{compressed_text, long_output, pool_overlap, IsCompressOf, IsEmission, IsPlanOf, IsTextOfPlan, IsTextOr, IsUnlessPool}
use Rattle.answer_groups.specs.GroupLines.{IsGroupsOf}
use Rattle.answer_kit.specs.Outcome.{Outcome, done, refused}
use Rattle.answer_kit.proofs.OneClass.{some_prefix}
use Rattle.answer_reports.specs.ReportAnswers.{report_of, IsReported}
use Rattle.answer_runs.specs.Reaches.{IsReachOf}
use Rattle.answer_runs.specs.Schedules.{IsRunOf}
use Rattle.answer_solutions.specs.Checks.{IsCheckOf}
use Rattle.workflow_laws.proofs.Decided.{IsComplete, IsSound}
use Rattle.workflow_laws.proofs.Labelled.{some_check, some_reach, some_run, RestIsStable, SomeOf}

abbrev pub HasOrder : Type 0
HasOrder = (problem : Problem) (labels : List (Option Route)) → (run : List ℕ) × IsOrderOf problem labels run

written : (b : Bool) (text : List ℕ) → SomeOf (IsTextOr b text)
written true text = (refused long_output, refl)
written false text = (done text, refl)

pub text_of_plan : (A : Plan → Type 0) (plan : Plan) → A plan → SomeOf (IsTextOfPlan A)
text_of_plan A plan is =
    let w = written (is_too_long (compressed_text plan)) (compressed_text plan) in (w.0, record { plan = plan; is = is; written = w.1 })

pub unless_overlap : (A : Outcome → Type 0) → SomeOf A → (line : Option ℕ) → SomeOf (IsUnlessPool line A)
unless_overlap A some (Some line) = (refused (pool_overlap line), refl)
unless_overlap A some None = some

module _ (n : Network) (number : ℕ) (class : DestClass) (r : Outcome) (is : IsReported report_text n number class r) where
  pub groups_of_plan : SomeOf (IsGroupsOf n class)
  groups_of_plan =
      let e = is.plan in
      let bytes = group_lines e.problem e.groups e.count in (
        done bytes,
        record {
          bytes = bytes;
          lines = record {
            problem = e.problem;
            groups = e.groups;
            are = record { of_class = is.is.built.of; coarsest = is.is.coarsest };
            lines = record { count = e.count; numbered = is.is.numbered; lines = refl };
          };
          written = refl;
        },
      )

  pub compress_of_plan : SomeOf (IsCompressOf n class)
  compress_of_plan = unless_overlap (IsEmission n class) (text_of_plan (IsPlanOf n class) is.plan is.is) (pool_line n class)

  pub json_of_plan : SomeOf (IsReported json_text n number class)
  json_of_plan = (done (json_text (report_of n number is.plan)), record { plan = is.plan; is = is.is; written = refl })

  module _ (has : Contains (classes_of n) class) where
    rules : IsProblem is.plan.problem
    rules = (let p = some_prefix n class has in (is.is.built.of p.0 p.1).rules)

    module _ (sound : IsSound) (complete : IsComplete) (second : Option (List ℕ)) (told : IsSome second) where
      pub check_of_plan : SomeOf (IsCheckOf n second class)
      check_of_plan =
          let o = some_check sound complete is.plan.problem rules second told in
          (o.0, record { problem = is.plan.problem; of_class = is.is.built.of; solution = o.1 })

      pub reach_of_plan : HasOrder → SomeOf (IsReachOf n second class)
      reach_of_plan has_order =
          let o = some_reach sound complete is.plan.problem rules has_order second told in
          (o.0, record { problem = is.plan.problem; of_class = is.is.built.of; solution = o.1 })

    pub run_of_plan : RestIsStable → (second : Option (List ℕ)) → IsSome second → SomeOf (IsRunOf n second class)
    run_of_plan rest second told =
        let o = some_run rest is.plan.problem rules second told in
        (o.0, record { problem = is.plan.problem; of_class = is.is.built.of; ran = o.1 })
