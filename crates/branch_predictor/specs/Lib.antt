pub mod Params
pub mod Predictor
pub mod PredictorStandsFor
