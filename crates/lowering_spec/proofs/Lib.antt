mod StepNodes
